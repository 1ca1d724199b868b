-- The end of a phase: what the parts stand for afterwards, and that there is room for its entry.
use Rattle.std.proofs.Common.{◌≡◌, ℕ, suc, ◌+◌, ◌*◌, ◌<◌, ◌≤◌, ◌&&◌, nat_lt, true, false, List, [], ◌∷◌, ◌++◌, refl, arith, sym, ap, ◌∙◌, subst, length, reverse, Option, Some, None, not, Bool}
use Rattle.std.specs.Prelude.{is_some}
use Rattle.std.specs.List.{AllByRecursion, list_all}
use Rattle.std.proofs.lemmas.Grind.{common_steps}
use Rattle.vch_base.specs.Keyed.{Keyed}
use Rattle.vch_values.specs.Parts.{KeyParts}
use Rattle.vch_bounds.specs.Bounded.{Limited}
use Rattle.vch_bounds.specs.Rooms.{room_of}
use Rattle.vch_bounds.proofs.CallerLemmas.{counted, room_grows}
use Rattle.vch_model.specs.Lines.{is_task, phases_in, lines_until}
use Rattle.vch_model.specs.Rows.{Entries}
use Rattle.vch_model.specs.declared.entry.Entry.TheVariants as entries
use Rattle.vch_model.specs.declared.lists.Scenario.{Scenario}
use Rattle.vch_machine.specs.State as machine
use Rattle.vch_machine.specs.State.{Machine, tasked, start}
use Rattle.vch_machine.specs.Events.{is_at_rest, all_at_rest, numbers, phase_event}
use Rattle.vch_machine.specs.Frames.{noted}
use Rattle.vch_machine.specs.Schedules.{Move}
use Rattle.vch_legal.proofs.CallerLemmas.{reached_stands, all_numbers, phase_uncounted}
use Rattle.vch_frame.specs.Pairs.{Optional}
use Rattle.vch_frame.proofs.CallerLemmas.{run_on}
use Rattle.vch_parts.specs.declared.frame.Frame.{Frame}
use Rattle.vch_parts.specs.declared.parts.Parts.{Parts}
use Rattle.vch_parts.specs.Framed.{begun_of}
use Rattle.vch_parts.specs.Phases.{IsQuiet, IsOver, IsPhaseEnd, PhaseFollows}
use Rattle.vch_parts.specs.Plain.{Plain, Part, part_of}
use Rattle.vch_parts.specs.Reached.{plain_of, IsState, IsEnd, Reached}
use Rattle.vch_parts.specs.Shape.{IsFrame, IsTask}
use Rattle.vch_parts.specs.Stands.{StandsFor}
use Rattle.vch_parts.proofs.framing.Glue.{in_parts}
use Rattle.vch_parts.proofs.framing.NextKinds.{part_at}
use Rattle.vch_parts.proofs.framing.OfParts.{numbers_of}
use Rattle.vch_parts.proofs.keys.Elsewhere.{elsewhere}

-- the tasks are few, and while a phase is left there is room for its end
pub record Roomy (p : Parts) : Type 0 where
  pub tasks : length p.scenario.flags ≤ 64
  pub phases : length p.scenario.phases ≤ 1024
  pub room : p.phase < length p.scenario.phases → 1 ≤ p.history.spare

pub roomy : (p : Parts) → Reached p → Roomy p
roomy p r = numbers_of p (Roomy p) r (λ m s ties n. record {
  tasks = r.limited.tasks;
  phases = r.limited.phases;
  room = λ l. let z = counted p.scenario m.past ties.legal in let a = s.room in let b = s.phase in omega (arith, a, b, l, z.entries, z.answers, z.released, z.given_up);
})

pub number_of_task : (sc : Scenario) (t : ℕ) → 0 < t → t ≤ length sc.flags → is_task sc t ≡ true
number_of_task sc t a b = by t (length sc.flags) a b
  where
    by : (t n : ℕ) → 0 < t → t ≤ n → (nat_lt 0 t && nat_lt t (n + 1)) ≡ true
    by t n a b = grind (arith, common_steps)

-- Every task is at rest.

all_true : (f : ℕ → Bool) (ts : List ℕ) → AllByRecursion (λ t. f t ≡ true) ts → list_all f ts ≡ true
all_true f [] h = refl
all_true f (t ∷ ts) h = rw (h.0, all_true f ts h.1) refl

not_below : (a b : ℕ) → b ≤ a → nat_lt a b ≡ false
not_below a b h = grind (arith, common_steps)

no_twin : (x : Keyed KeyParts) (o : Option Frame) (p : Option machine.Frame) → o ≡ None → Optional (IsFrame x) o p → p ≡ None
no_twin x None None e h = refl
no_twin x None (Some g) e h = absurd h
no_twin x (Some f) p e h = absurd (cc)

-- a quiet task is at rest in each state that the parts stand for
at_rest : (p : Parts) (t : ℕ) (m : Machine) → is_task p.scenario t ≡ true → IsQuiet p t → IsState p.scenario (plain_of p) m → is_at_rest p.scenario (phases_in m.past) t (tasked m t) ≡ true
unfolding IsState
at_rest p t m e q s =
    let n = in_parts p.scenario (plain_of p) m t s.2 (reached_stands p.scenario s.0 m s.1) e in
    let own : IsTask p.values (part_of (plain_of p) t) (tasked m t) = s.2.shape.tasks t n.0 n.1 in
    let twin : part_of (plain_of p) t ≡ _ = part_at p.vouchers p.frames t n.0 n.1 in
    let none : (tasked m t).frame ≡ None = no_twin p.values (part_of (plain_of p) t).frame (tasked m t).frame (ap (λ (x : Part). x.frame) twin ∙ q.frame) own.frame in
    let begun : begun_of p.frames t ≡ (tasked m t).begun = sym (ap (λ (x : Part). x.begun) twin) ∙ own.begun in
    let low : nat_lt (begun_of p.frames t) (lines_until p.scenario (p.phase + 1) t) ≡ false = not_below (begun_of p.frames t) (lines_until p.scenario (p.phase + 1) t) q.begun in
    ap (λ (o : Option machine.Frame). not (is_some o) && not (nat_lt (tasked m t).begun (lines_until p.scenario (phases_in m.past + 1) t))) none
    ∙ ap not (ap (λ k. nat_lt k (lines_until p.scenario (phases_in m.past + 1) t)) (sym begun) ∙ (ap (λ k. nat_lt (begun_of p.frames t) (lines_until p.scenario (k + 1) t)) (sym s.2.phase) ∙ low))

ends_phase : (sc : Scenario) (m : Machine) → ((t : ℕ) → is_task sc t ≡ true → is_at_rest sc (phases_in m.past) t (tasked m t) ≡ true) → phases_in m.past < length sc.phases → phase_event sc m ≡ Some (noted m entries.Phase)
unfolding phase_event
ends_phase sc m h l =
    let a : all_at_rest sc m ≡ true = all_true (λ t. is_at_rest sc (phases_in m.past) t (tasked m t)) (numbers (length sc.flags)) (all_numbers (λ t. is_at_rest sc (phases_in m.past) t (tasked m t) ≡ true) (length sc.flags) (λ t p q. h t (number_of_task sc t p q))) in
    rw (a, below (phases_in m.past) (length sc.phases) l) refl
  where
    below : (a b : ℕ) → a < b → nat_lt a b ≡ true
    below a b h = grind (arith, common_steps)

one_behind : {A : Type 0} (x : A) (xs : List A) → reverse (x ∷ xs) ≡ reverse xs ++ x ∷ []
one_behind x xs = grind (arith, common_steps)

-- The end.

-- with an entry appended, and one phase more that has ended
abbrev ended : Plain → Entries → Plain
ended c h = record c { history = h.entries; spare = h.spare; phase = c.phase + 1 }

ended_stands : (sc : Scenario) (c : Plain) (h : Entries) (m : Machine) → StandsFor sc c m → h.entries ≡ c.history ++ entries.Phase ∷ [] → h.spare + 1 ≡ c.spare → StandsFor sc (ended c h) (noted m entries.Phase)
ended_stands sc c h m s added less = record {
  keyed = λ k. elsewhere sc k c (ended c h) m (noted m entries.Phase)
      (record { parts = refl; pools = refl; living = λ i. refl; shown = refl; refers = omega arith; amounts = (phase_uncounted sc m.past).amounts }) (s.keyed k);
  ledgers = record { long = s.ledgers.long; each = λ t task. s.ledgers.each t task ∙ sym ((phase_uncounted sc m.past).ledgers t) };
  shape = record { long = s.shape.long; tasks = s.shape.tasks; limits = s.shape.limits };
  history = added ∙ (ap (λ past. past ++ entries.Phase ∷ []) s.history ∙ sym (one_behind entries.Phase m.past));
  phase = ap (λ n. n + 1) s.phase;
  tally = s.tally;
  asked = s.asked;
  room = more (room_of sc (entries.Phase ∷ m.past)) (room_of sc m.past) (length m.past) h.spare c.spare (room_grows sc m.past entries.Phase) less s.room;
}
  where
    more : (z a b i n : ℕ) → z ≡ a + 2 * 0 → i + 1 ≡ n → a ≤ b + n → z ≤ suc b + i
    more z a b i n q l e = omega arith

pub phase_follows : (p : Parts) (h : Entries) → IsOver p → h.entries ≡ p.history.entries ++ entries.Phase ∷ [] → h.spare + 1 ≡ p.history.spare → PhaseFollows p (record p { history = h; phase = p.phase + 1 })
unfolding IsPhaseEnd IsState
phase_follows p h over added less = record {
  scenario = refl;
  event = λ m s.
      let a : p.phase ≡ phases_in m.past = s.2.phase in
      let e : phase_event p.scenario m ≡ Some (noted m entries.Phase) = ends_phase p.scenario m (λ t task. at_rest p t m task (over.quiet t task) s) (subst (λ n. n < length p.scenario.phases) a over.left) in
      (noted m entries.Phase, e, (s.0 ++ Move.EndPhase ∷ [], run_on p.scenario s.0 (Some (start p.scenario)) m (noted m entries.Phase) Move.EndPhase s.1 e, ended_stands p.scenario (plain_of p) h m s.2 added less));
}

-- after it the parts are the end of a run again
phase_on : (sc : Scenario) (old new : Plain) → IsEnd sc old → IsPhaseEnd sc old new → IsEnd sc new
unfolding IsEnd IsPhaseEnd
phase_on sc old new r f = let e = f r.0 r.1 in (e.0, e.2)

pub reached_phase : (old new : Parts) → Reached old → PhaseFollows old new → Reached new
reached_phase old new r f = record {
  limited = subst Limited (sym f.scenario) r.limited;
  end = subst (λ sc. IsEnd sc (plain_of new)) (sym f.scenario) (phase_on old.scenario (plain_of old) (plain_of new) r.end f.event);
}
