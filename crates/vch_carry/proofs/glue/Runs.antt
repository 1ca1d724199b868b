-- A run goes on by an event; the entry that the event notes has room.
use Rattle.std.proofs.Common.{◌≡◌, ℕ, suc, ◌+◌, ◌*◌, ◌≤◌, Bool, false, [], ◌∷◌, ◌++◌, arith, ap, subst, sym, length, Some}
use Rattle.vch_base.specs.declared.kind.Kind.{Kind}
use Rattle.vch_bounds.specs.Rooms.{room_of, is_made}
use Rattle.vch_bounds.proofs.CallerLemmas.{within, room_grows}
use Rattle.vch_legal.specs.Facts.{bit}
use Rattle.vch_legal.specs.Tie.{Ties}
use Rattle.vch_legal.proofs.CallerLemmas.{reached_stands}
use Rattle.vch_model.specs.declared.entry.Entry.{Entry}
use Rattle.vch_model.specs.declared.lists.Scenario.{Scenario}
use Rattle.vch_machine.specs.Events.{event}
use Rattle.vch_machine.specs.Next.{next_kind}
use Rattle.vch_machine.specs.Schedules.{Move}
use Rattle.vch_machine.specs.State.{Machine, start}
use Rattle.vch_frame.proofs.CallerLemmas.{run_on}
use Rattle.vch_parts.specs.declared.parts.Parts.{Parts}
use Rattle.vch_parts.specs.Plain.{Plain}
use Rattle.vch_parts.specs.Reached.{plain_of, IsState, IsEventBy, MayFollow}
use Rattle.vch_parts.specs.Stands.{StandsFor}

-- what an event does to a state, and what the parts stand for then
abbrev pub Happens : Scenario → Bool → Kind → ℕ → Plain → Machine → Type 0
Happens sc want kind t d m = (n : Machine) × (event sc want m t ≡ Some n) × (next_kind sc m t ≡ Some kind) × StandsFor sc d n

event_by : (sc : Scenario) (want : Bool) (kind : Kind) (t : ℕ) (c d : Plain) → ((m : Machine) → IsState sc c m → Happens sc want kind t d m) → IsEventBy sc want kind t c d
unfolding IsEventBy IsState
event_by sc want kind t c d f m st =
    let e = f m st in
    (e.0, e.1, e.2, (st.0 ++ Move.Of t want ∷ [], run_on sc st.0 (Some (start sc)) m e.0 (Move.Of t want) st.1 e.1, e.3))

pub follows_by : (old new : Parts) (want : Bool) (kind : Kind) (t : ℕ) (d : Plain) → new.scenario ≡ old.scenario → plain_of new ≡ d
    → ((m : Machine) → IsState old.scenario (plain_of old) m → Happens old.scenario want kind t d m) → MayFollow kind t old new
follows_by old new want kind t d same is f = record {
  scenario = same;
  want = want;
  event = subst (IsEventBy old.scenario want kind t (plain_of old)) (sym is) (event_by old.scenario want kind t (plain_of old) d f);
}

-- the history that a next state has is within the room
pub room_by : (sc : Scenario) (c : Plain) (m n : Machine) (t : ℕ) (want : Bool) (e : Entry) → IsState sc c m → event sc want m t ≡ Some n → n.past ≡ e ∷ m.past → is_made e ≡ false → 1 ≤ c.spare
unfolding IsState
room_by sc c m n t want e st happens past plain =
    let s = st.2 in
    let ties : Ties sc n = reached_stands sc (st.0 ++ Move.Of t want ∷ []) n (run_on sc st.0 (Some (start sc)) m n (Move.Of t want) st.1 happens) in
    let a : length n.past ≤ room_of sc n.past = within sc n.past ties.legal in
    let b : suc (length m.past) ≤ room_of sc (e ∷ m.past) = subst (λ past. length past ≤ room_of sc past) past a in
    let g : room_of sc (e ∷ m.past) ≡ room_of sc m.past + 2 * bit (is_made e) = room_grows sc m.past e in
    more (length m.past) (room_of sc (e ∷ m.past)) (room_of sc m.past) (bit (is_made e)) c.spare b g (ap bit plain) s.room
  where
    more : (a b d x n : ℕ) → suc a ≤ b → b ≡ d + 2 * x → x ≡ 0 → d ≤ a + n → 1 ≤ n
    more a b d x n i j k l = omega (arith, i, j, k, l)
