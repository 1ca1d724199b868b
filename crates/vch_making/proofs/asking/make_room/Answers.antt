use Rattle.std.proofs.Common.{arith, ◌∙◌, ap, subst, length, ◌<◌, ◌≤◌, ◌+◌, ◌*◌, ◌≡◌, ℕ}
use Rattle.vch_base.specs.Keyed.{of_key}
use Rattle.vch_model.specs.declared.lists.Scenario.{Scenario}
use Rattle.vch_making.proofs.questions.Bounds.{on_ok, room_made, calls_few, phases_few, live_few, slots_few, room_fits}
use Rattle.vch_making.proofs.asking.make_room.Goals as goal

pub live-live-requires : goal.live-live-requires
live-live-requires c = let a = live_few c.args.parts.now c.requires.reached in omega (arith, a)

pub overflow_add-owed-2 : goal.overflow_add-owed-2
overflow_add-owed-2 c = let fits = (room_fits _ _ _ _ _ _ c.calls.ensures (c.len.ensures ∙ ap (λ (s : Scenario). length s.phases) c.scenario.ensures) c.live-live.ensures
    (calls_few c.args.parts.now c.requires.reached) (phases_few c.args.parts.now c.requires.reached) (live_few c.args.parts.now c.requires.reached)).0 in omega (arith, fits)

pub overflow_add-owed-3 : goal.overflow_add-owed-3
overflow_add-owed-3 c = let fits = (room_fits _ _ _ _ _ _ c.calls.ensures (c.len.ensures ∙ ap (λ (s : Scenario). length s.phases) c.scenario.ensures) c.live-live.ensures
    (calls_few c.args.parts.now c.requires.reached) (phases_few c.args.parts.now c.requires.reached) (live_few c.args.parts.now c.requires.reached)).1 in omega (arith, fits)

pub overflow_cast-handles : goal.overflow_cast-handles
overflow_cast-handles c = let a = slots_few c.args.parts.now c.requires.reached c.args.key in let e = c.handles-handles.ensures in omega (arith, a, e)

pub returns-clause-room : goal.returns-clause-room
returns-clause-room c = on_ok c.reserve_number.result _ _
    (λ l. room_made c.args.parts.now c.args.task c.args.key c.requires.task c.reserve_number.new.self c.reserve.new.self c.reserve_number.ensures.others c.reserve_number.ensures.kept
    (enough _ _ _ _ _ _ _ c.calls.ensures (c.len.ensures ∙ ap (λ (s : Scenario). length s.phases) c.scenario.ensures) c.live-live.ensures c.in_ok-reserve.ensures.room)
    (subst (λ n. n < length (of_key c.args.key c.reserve_number.new.self).numbers) c.handles-handles.ensures l))
    c.reserve_number.ensures.room
  where
    enough : (a b d calls phases live spare : ℕ) → a ≡ calls → b ≡ phases → d ≡ live → 2 * a + b + d + 2 ≤ spare → 2 * calls + phases + live + 2 ≤ spare
    enough a b d calls phases live spare x y z l = omega arith
