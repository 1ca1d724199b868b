-- Every legal history has a report with a text, where what it makes is of bytes, and so has that of every run of a scenario
-- with a text.
use Rattle.std.proofs.Common.{◌≡◌, ℕ, suc, ◌+◌, ◌*◌, ◌<◌, ◌≤◌, Bool, true, false, ◌&&◌, List, [], ◌∷◌, ◌++◌, refl, arith, sym, ap, ◌∙◌, subst, length, reverse, Some, None, Option, append_assoc, append-nil}
use Rattle.std.proofs.lemmas.List.{length-reverse, reverse-append, reverse-reverse}
use Rattle.std.specs.Prelude.{◌^◌, if◌then◌else◌, nat_lt, is_some}
use Rattle.std.specs.List.{AllByRecursion, flat_map}
use Rattle.vch_model.specs.declared.entry.Entry.{Entry}
use Rattle.vch_model.specs.declared.entry.Entry.TheVariants as entries
use Rattle.vch_model.specs.declared.lists.Scenario.{Scenario}
use Rattle.vch_model.specs.Store.{Store, Alive}
use Rattle.vch_model.specs.After.{store_after, store_of}
use Rattle.vch_model.specs.Text.{totals_of, vouchers_in, values_in}
use Rattle.vch_base.specs.Keys.{number_of}
use Rattle.vch_model.specs.Lines.{phases_in}
use Rattle.vch_model.specs.Legal.{Legal, LegalPast}
use Rattle.vch_model.specs.Canonical.{IsWritable}
use Rattle.vch_model.specs.WellFormed.{IsEntry, IsTotal}
use Rattle.vch_model.specs.Scenarios.{line_count, IsLimited}
use Rattle.vch_machine.specs.State.{Machine, Living, seen, alive_of, start}
use Rattle.vch_machine.specs.Events.{event, phase_event, all_at_rest}
use Rattle.vch_machine.specs.Frames.{noted}
use Rattle.vch_machine.specs.Schedules.{Move, happens, run, run_from_start}
use Rattle.vch_legal.specs.Left.{work_left, largest_call}
use Rattle.vch_legal.specs.Reports.{IsByteValue, IsByteEntry, IsReportable}
use Rattle.vch_legal.specs.Tie.{Ties}
use Rattle.vch_legal.proofs.bounds.Bounds.{run_bounded}
use Rattle.vch_legal.proofs.facts.Cases.{May, event_case}
use Rattle.vch_legal.proofs.lines.EachLine.{all_joined}
use Rattle.vch_legal.proofs.steps.EventSteps.{Happened, event_happens}
use Rattle.vch_legal.proofs.steps.Follows.{Follows}
use Rattle.vch_legal.proofs.facts.Keeps.{event_keeps}
use Rattle.vch_legal.proofs.lines.LineSums.{start_few}
use Rattle.vch_legal.proofs.steps.MakeSteps.{MayStep}
use Rattle.vch_legal.proofs.reports.ReportEntries.{past_formed}
use Rattle.vch_legal.proofs.sums.ReportSums.{totals_fit, vouchers_fit, values_fit}
use Rattle.vch_legal.proofs.reports.RunBytes.{LivingBytes, byte_cases}
use Rattle.vch_legal.proofs.runs.Runs.{start_stands, happens_stands, reached_stands}

-- what is kept along a run of so many moves
pub record Written (m : Machine) (moves : ℕ) : Type 0 where
  pub live : AllByRecursion LivingBytes m.live
  pub past : AllByRecursion IsByteEntry m.past
  pub few : length m.past ≤ moves

event_follows : (sc : Scenario) (want : Bool) (t : ℕ) (m n : Machine) → Ties sc m → event sc want m t ≡ Some n → Follows sc t m n
event_follows sc want t m n s e =
    (subst (MayStep sc t m) e (happened.step (ap is_some e)) (event_keeps sc want t m n s.fits e)).follows
  where
    happened : Happened sc t m (event sc want m t)
    happened = event_happens sc want t m s

abbrev AliveBytes : Alive → Type 0
AliveBytes l = IsByteValue l.value

alive_all : (live : List Living) → AllByRecursion LivingBytes live → AllByRecursion AliveBytes (flat_map alive_of live)
alive_all [] h = tt
alive_all (l ∷ live) h = all_joined AliveBytes (alive_of l) (flat_map alive_of live) (one (nat_lt 0 l.made)) (alive_all live h.1)
  where
    one : (b : Bool) → AllByRecursion AliveBytes
        (if b then record { key = number_of l.place.key; value = l.value; made = l.made } ∷ [] else [])
    one true = (h.0, tt)
    one false = tt

last_of : {A : Type 0} (P : A → Type 0) (xs : List A) (x : A) → AllByRecursion P (xs ++ x ∷ []) → P x
last_of P [] x h = h.0
last_of P (y ∷ xs) x h = last_of P xs x h.1

-- the entry that an event adds
entry_bytes : (sc : Scenario) (m n : Machine) (e : Entry) → seen n ≡ store_after sc (length m.past) (seen m) e
    → AllByRecursion LivingBytes n.live → IsByteEntry e
entry_bytes sc m n (entries.Made k x) s h =
    last_of AliveBytes (seen m).live (record { key = k; value = x; made = length m.past + 1 })
    (subst (λ (r : Store). AllByRecursion AliveBytes r.live) s (alive_all n.live h))
entry_bytes sc m n (entries.Call t i word reply) s h = tt
entry_bytes sc m n (entries.Released e) s h = tt
entry_bytes sc m n (entries.Gone t name) s h = tt
entry_bytes sc m n (entries.Lost t) s h = tt
entry_bytes sc m n entries.Phase s h = tt

written_after : (sc : Scenario) (t : ℕ) (m n : Machine) (k : ℕ) → Follows sc t m n → AllByRecursion LivingBytes n.live → Written m k
    → Written n (suc k)
written_after sc t m n k (Follows.Quiet p s) live h = record {
  live = live;
  past = subst (AllByRecursion IsByteEntry) (sym p) h.past;
  few = subst (λ (past : List Entry). length past ≤ suc k) (sym p) (omega (arith, h.few));
}
written_after sc t m n k (Follows.Adds e p s c o) live h = record {
  live = live;
  past = subst (AllByRecursion IsByteEntry) (sym p) (entry_bytes sc m n e s live, h.past);
  few = subst (λ (past : List Entry). length past ≤ suc k) (sym p) (omega (arith, h.few));
}

module _ (sc : Scenario) (w : IsWritable sc) where
  event_written : (want : Bool) (t : ℕ) (m n : Machine) (k : ℕ) → Ties sc m → event sc want m t ≡ Some n → Written m k
      → Written n (suc k)
  event_written want t m n k s e h =
      written_after sc t m n k (event_follows sc want t m n s e)
      (subst (May (λ (x : Machine). AllByRecursion LivingBytes x.live)) e
      (event_case sc want t m (λ x. AllByRecursion LivingBytes x.live) s.fits (λ _. byte_cases sc t m w h.live))) h

  phase_written : (m n : Machine) (k : ℕ) → phase_event sc m ≡ Some n → Written m k → Written n (suc k)
  unfolding phase_event
  phase_written m n k e h = by_test (all_at_rest sc m && nat_lt (phases_in m.past) (length sc.phases)) e
    where
      some_eq : {x y : Machine} → Some x ≡ Some y → x ≡ y
      some_eq g = cc

      by_test : (b : Bool) → (if b then Some (noted m entries.Phase) else None) ≡ Some n → Written n (suc k)
      by_test true g = subst (λ (x : Machine). Written x (suc k)) (some_eq g)
          (record { live = h.live; past = (tt, h.past); few = omega (arith, h.few) })
      by_test false g = absurd (cc)

  move_written : (move : Move) (m n : Machine) (k : ℕ) → Ties sc m → happens sc m move ≡ Some n → Written m k → Written n (suc k)
  move_written (Move.Of t want) m n k s e h = event_written want t m n k s e h
  move_written Move.EndPhase m n k s e h = phase_written m n k e h

  run_written : (moves : List Move) (m n : Machine) (k : ℕ) → Ties sc m → run sc moves (Some m) ≡ Some n → Written m k
      → Written n (k + length moves)
  run_written [] m n k s e h = subst (λ (x : Machine). Written x (k + 0)) (some_eq e) (subst (Written m) (same k) h)
    where
      some_eq : {x y : Machine} → Some x ≡ Some y → x ≡ y
      some_eq g = cc

      same : (k : ℕ) → k ≡ k + 0
      same k = omega arith
  run_written (move ∷ moves) m n k s e h =
      by_move (happens sc m move) refl e (λ o t g i. run_written moves o n (suc k) t g i)
    where
      same : (k j : ℕ) → suc k + j ≡ k + suc j
      same k j = omega arith

      by_move : (o : Option Machine) → happens sc m move ≡ o → run sc moves o ≡ Some n
          → ((o : Machine) → Ties sc o → run sc moves (Some o) ≡ Some n → Written o (suc k) → Written n (suc k + length moves))
          → Written n (k + suc (length moves))
      by_move None g i later = absurd (cc)
      by_move (Some o) g i later =
          subst (Written n) (same k (length moves))
          (later o (happens_stands sc m o move s g) i (move_written move m o k s g h))

  reached_written : (moves : List Move) (n : Machine) → run_from_start sc moves ≡ Some n → Written n (length moves)
  reached_written moves n e =
      subst (Written n) (same (length moves))
      (run_written moves (start sc) n 0 (start_stands sc) e (record { live = (tt, tt); past = tt; few = omega arith }))
    where
      same : (k : ℕ) → 0 + k ≡ k
      same k = omega arith

  -- a run has fewer than 2 ^ 32 entries
  pub entries_few : (moves : List Move) (n : Machine) → run_from_start sc moves ≡ Some n → length n.past < 4294967296
  entries_few moves n e =
      let a : length n.past ≤ length moves = (reached_written moves n e).few in
      let b : length moves + work_left sc n ≤ work_left sc (start sc) = run_bounded sc moves n e in
      let c : work_left sc (start sc) ≤ largest_call * line_count sc.phases + length sc.phases = start_few sc in
      omega (arith, a, b, c, w.limited.calls, w.limited.phases)

  pub bytes_made : (moves : List Move) (n : Machine) → run_from_start sc moves ≡ Some n → AllByRecursion IsByteEntry n.past
  bytes_made moves n e = (reached_written moves n e).past

-- Lists of entries, turned round.

all_onto : (P : Entry → Type 0) (xs ys : List Entry) → AllByRecursion P xs → AllByRecursion P ys
    → AllByRecursion P (reverse xs ++ ys)
all_onto P [] ys a b = b
all_onto P (x ∷ xs) ys a b =
    let own : reverse (x ∷ xs) ++ ys ≡ reverse xs ++ x ∷ ys =
    ap (λ l. l ++ ys) (reverse-append (x ∷ []) xs) ∙ append_assoc (reverse xs) (x ∷ []) ys in
    subst (AllByRecursion P) (sym own) (all_onto P xs (x ∷ ys) a.1 (a.0, b))

pub all_reversed : (P : Entry → Type 0) (xs : List Entry) → AllByRecursion P xs → AllByRecursion P (reverse xs)
all_reversed P xs a = subst (AllByRecursion P) (append-nil (reverse xs)) (all_onto P xs [] a tt)

past_reportable : (sc : Scenario) (past : List Entry) → IsLimited sc → length past < 4294967296 → LegalPast sc past
    → AllByRecursion IsByteEntry past → IsReportable sc (reverse past)
past_reportable sc past limited few legal bytes =
    let same : past ≡ reverse (reverse past) = sym (reverse-reverse past) in
    record {
      entries = all_reversed (IsEntry sc.version) past (past_formed sc limited past few legal bytes);
      totals = subst (λ (p : List Entry). AllByRecursion IsTotal (totals_of sc p)) same (totals_fit sc limited past (omega (arith, few)));
      vouchers = subst (λ (p : List Entry). vouchers_in (store_of sc p) < 2 ^ 64) same (vouchers_fit sc limited past (omega (arith, few)));
      values = subst (λ (p : List Entry). values_in (store_of sc p) < 2 ^ 64) same (values_fit sc limited past (omega (arith, few)));
    }

-- the report of a legal history has a text, where what is made of bytes is
pub legal_reportable : (sc : Scenario) (history : List Entry) → IsLimited sc → Legal history sc → length history < 2 ^ 32
    → AllByRecursion IsByteEntry history → IsReportable sc history
legal_reportable sc history limited legal few bytes =
    let long : length (reverse history) ≡ length history = length-reverse history in
    subst (IsReportable sc) (reverse-reverse history)
    (past_reportable sc (reverse history) limited (omega (arith, long, few)) legal (all_reversed IsByteEntry history bytes))

-- and so has that of every run
pub run_reportable : (sc : Scenario) (moves : List Move) (n : Machine) → IsWritable sc → run_from_start sc moves ≡ Some n
    → IsReportable sc (reverse n.past)
run_reportable sc moves n w e =
    past_reportable sc n.past w.limited (entries_few sc w moves n e) (reached_stands sc moves n e).legal (bytes_made sc w moves n e)
