-- A task whose next event begins a call.
use Rattle.std.proofs.Common.{◌≡◌, ℕ, ◌+◌, ◌-◌, ◌<◌, ◌≤◌, Bool, true, List, [], ◌++◌, refl, arith, sym, ap, ◌∙◌, subst, length, Option, Some, None}
use Rattle.std.proofs.lemmas.Grind.{common_steps}
use Rattle.vch_base.specs.Tasks.{set_task}
use Rattle.vch_base.proofs.CallerLemmas.{as_long, own_item, set_twice}
use Rattle.vch_base.specs.declared.kind.Kind.TheVariants as kinds
use Rattle.vch_base.specs.Keyed.{Keyed}
use Rattle.vch_bounds.specs.Spent.{begun_in}
use Rattle.vch_bounds.proofs.CallerLemmas.{one_of_all}
use Rattle.vch_model.specs.Lines.{is_task}
use Rattle.vch_model.specs.declared.call.Call.{Call}
use Rattle.vch_model.specs.declared.entry.Entry.{Entry}
use Rattle.vch_model.specs.declared.lists.Scenario.{Scenario}
use Rattle.vch_vouchers.specs.Desks.{Desk}
use Rattle.vch_machine.specs.Beginning.{begin_call, begin_line, store_reply}
use Rattle.vch_machine.specs.Events.{event, event_of}
use Rattle.vch_machine.specs.Next.{nth_call, next_kind}
use Rattle.vch_machine.specs.State as machine
use Rattle.vch_machine.specs.State.{Machine, tasked, idle}
use Rattle.vch_legal.specs.Tie.{Ties}
use Rattle.vch_legal.proofs.CallerLemmas.{reached_stands}
use Rattle.vch_frame.specs.Pairs.{Optional}
use Rattle.vch_values.specs.Parts.{KeyParts}
use Rattle.vch_parts.specs.declared.frame.Frame.{Frame}
use Rattle.vch_parts.specs.declared.frames.Working.{Working}
use Rattle.vch_parts.specs.declared.parts.Parts.{Parts}
use Rattle.vch_parts.specs.Framed.{resting, frame_of, begun_of, with_frame_of, with_begun_of}
use Rattle.vch_parts.specs.Plain.{Part, part_of, with_frame}
use Rattle.vch_parts.specs.Reached.{plain_of, part_in, parts_in, Reached, IsState, IsEnd, IsNext}
use Rattle.vch_parts.specs.Shape.{IsFrame}
use Rattle.vch_parts.proofs.CallerLemmas.{in_parts, own_frame, own_begun, numbers_of, task_inside, set_work}
use Rattle.vch_moves.specs.Moments.{IsFree}
use Rattle.vch_moves.specs.Steps.{machine_begun, begun_one, opened}
use Rattle.vch_carry.proofs.glue.Steps.{own_desk, own_work, range}

no_twin : (x : Keyed KeyParts) (o : Option Frame) (q : Option machine.Frame) → o ≡ None → Optional (IsFrame x) o q → q ≡ None
no_twin x None None e h = refl
no_twin x None (Some g) e h = absurd h
no_twin x (Some f) q e h = absurd (cc)

begins_at : (sc : Scenario) (want : Bool) (m : Machine) (t : ℕ) (call : Call) → nth_call sc t ((tasked m t).begun + 1) ≡ Some call → is_task sc t ≡ true → (tasked m t).frame ≡ None → next_kind sc m t ≡ Some kinds.Begin
    → event sc want m t ≡ Some (begin_call sc want (machine_begun m t) t call (store_reply sc m t call))
unfolding event
begins_at sc want m t call is task free next = rw (task, next) (ap (λ o. event_of sc want m t o (Some kinds.Begin)) free ∙ ap (begin_line sc want m t) is)

-- a task that begins a call, in the parts and in a state that they stand for
pub record Begun (p : Parts) (m : Machine) (t : ℕ) (call : Call) : Type 0 where
  pub at_rest : IsFree p.scenario (plain_of p) m t
  pub state : IsState p.scenario (plain_of p) m
  pub ties : Ties p.scenario m
  pub event : (want : Bool) → event p.scenario want m t ≡ Some (begin_call p.scenario want (machine_begun m t) t call (store_reply p.scenario m t call))
  pub next : next_kind p.scenario m t ≡ Some kinds.Begin

module _ (p : Parts) (t : ℕ) (r : Reached p) (task : is_task p.scenario t ≡ true) where
  pub begun_few : begun_of p.frames t < 4294967295
  begun_few = numbers_of p _ r (λ m s ties n.
      let i = in_parts p.scenario (plain_of p) m t s ties task in
      let a : (tasked m t).begun ≤ 1048576 = below (tasked m t).begun _ (one_of_all begun_in m.tasks t idle refl) n.begun in
      let b : begun_of p.frames t ≡ (tasked m t).begun = sym (own_begun p t r task) ∙ (s.shape.tasks t i.0 i.1).begun in
      omega (arith, a, b))
    where
      below : (a b : ℕ) → a ≤ b → b ≤ 1048576 → a ≤ 1048576
      below a b i j = omega (arith, i, j)

  -- frames of which one task begins a call, and gets a frame
  pub begun_range : (fs2 : List Working) → fs2 ≡ with_begun_of p.frames t → (0 < t) × (t ≤ length fs2)
  begun_range fs2 e =
      let n = task_inside p t r task in
      (n.0, subst (λ k. t ≤ k) (sym (ap length e ∙ as_long p.frames t (record { begun = begun_of p.frames t + 1; frame = frame_of p.frames t }))) n.1)

  pub frames_begun : (fs2 : List Working) → fs2 ≡ with_begun_of p.frames t → parts_in p.vouchers fs2 ≡ set_task (parts_in p.vouchers p.frames) t (begun_one (part_of (plain_of p) t))
  frames_begun fs2 e =
      ap (parts_in p.vouchers) (e ∙ ap (λ (w : Working). set_task p.frames t (record { begun = w.begun + 1; frame = w.frame })) (own_work p t r task))
      ∙ (set_work p.vouchers p.frames t (record { begun = (part_of (plain_of p) t).begun + 1; frame = (part_of (plain_of p) t).frame }) (range p t r task).0
      ∙ ap (λ (d : Desk). set_task (parts_in p.vouchers p.frames) t (part_in d (record { begun = (part_of (plain_of p) t).begun + 1; frame = (part_of (plain_of p) t).frame }))) (own_desk p t r task))

  pub frames_opened : (fs2 : List Working) (f : Option Frame) → fs2 ≡ with_frame_of (with_begun_of p.frames t) t f → parts_in p.vouchers fs2 ≡ set_task (parts_in p.vouchers p.frames) t (with_frame (begun_one (part_of (plain_of p) t)) f)
  frames_opened fs2 f e =
      let n = task_inside p t r task in
      let w : Working = record { begun = begun_of p.frames t + 1; frame = frame_of p.frames t } in
      let twice : fs2 ≡ set_task p.frames t (record { begun = begun_of p.frames t + 1; frame = f }) =
      e ∙ (ap (λ (x : Working). set_task (set_task p.frames t w) t (record x { frame = f })) (own_item p.frames t w resting n.0 n.1)
      ∙ set_twice p.frames t w (record { begun = begun_of p.frames t + 1; frame = f })) in
      ap (parts_in p.vouchers) (twice ∙ ap (λ (w : Working). set_task p.frames t (record { begun = w.begun + 1; frame = f })) (own_work p t r task))
      ∙ (set_work p.vouchers p.frames t (record { begun = (part_of (plain_of p) t).begun + 1; frame = f }) (range p t r task).0
      ∙ ap (λ (d : Desk). set_task (parts_in p.vouchers p.frames) t (part_in d (record { begun = (part_of (plain_of p) t).begun + 1; frame = f }))) (own_desk p t r task))

  -- nothing is noted
  nothing_more : (xs : List Entry) → xs ≡ xs ++ []
  nothing_more xs = grind (arith, common_steps)

  nothing_less : (n : ℕ) → n ≡ n - 0
  nothing_less n = omega arith

  quiet : (a b : List Part) (d e : List Entry) (i j : ℕ) → a ≡ b → d ≡ e → i ≡ j → record (plain_of p) { tasks = a; history = d; spare = i } ≡ record (plain_of p) { tasks = b; history = e; spare = j }
  quiet a b d e i j q r s = rw (q, r, s) refl

  pub opened_is : (fs2 : List Working) (f : Frame) → fs2 ≡ with_frame_of (with_begun_of p.frames t) t (Some f) → plain_of (record p { frames = fs2 }) ≡ opened (plain_of p) t f
  opened_is fs2 f e = quiet _ _ _ _ _ _ (frames_opened fs2 (Some f) e) (nothing_more p.history.entries) (nothing_less p.history.spare)

  module _ (next : IsNext p t (Some kinds.Begin)) (free : frame_of p.frames t ≡ None) (call : Call) (is : nth_call p.scenario t (begun_of p.frames t + 1) ≡ Some call) where
    pub begun : (m : Machine) → IsState p.scenario (plain_of p) m → Begun p m t call
    unfolding IsState IsNext
    begun m st =
        let s = st.2 in
        let ties = reached_stands p.scenario st.0 m st.1 in
        let n = in_parts p.scenario (plain_of p) m t s ties task in
        let x = s.shape.tasks t n.0 n.1 in
        let own : (part_of (plain_of p) t).frame ≡ None = own_frame p t r task ∙ free in
        let none : (tasked m t).frame ≡ None = no_twin p.values (part_of (plain_of p) t).frame (tasked m t).frame own x.frame in
        let number : begun_of p.frames t ≡ (tasked m t).begun = sym (own_begun p t r task) ∙ x.begun in
        record {
          at_rest = record { stands = s; positive = n.0; inside = n.1; own = own; task = none };
          state = st;
          ties = ties;
          event = λ want. begins_at p.scenario want m t call (ap (λ n. nth_call p.scenario t (n + 1)) (sym number) ∙ is) task none (next m st);
          next = next m st;
        }

    -- in the state that there is
    pub some_begun : (A : Type 0) → ((m : Machine) → Begun p m t call → A) → A
    unfolding IsEnd
    some_begun A h = h r.end.0 (begun r.end.0 r.end.1)
