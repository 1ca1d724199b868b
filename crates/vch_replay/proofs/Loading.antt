-- What a history of so many entries adds up to, and the lines of a summary.
use Rattle.std.proofs.Common.{◌≡◌, ℕ, zero, suc, ◌+◌, ◌*◌, ◌<◌, ◌≤◌, ◌^◌, Bool, true, false, cond, List, [], ◌∷◌, ◌++◌, length, take, reverse, Option, Some, None, refl, sym, ap, subst, ◌∙◌, arith, append_assoc, append-nil, codes}
use Rattle.std.specs.Prelude.{slice_get, if◌then◌else◌, get_or}
use Rattle.std.specs.List.{AllByRecursion, count_by, sum_by}
use Rattle.std.proofs.lemmas.List.{length-reverse}
use Rattle.std.proofs.lemmas.List.Sums.{sum_by_more, sum_by-cons, sum_by-take-le, count_by-le-length}
use Rattle.std.proofs.lemmas.Option.{get_or_from_slice_get, slice_get_within}
use Rattle.vch_base.specs.declared.flags.Flags.{Flags}
use Rattle.vch_model.specs.declared.call.Call.{Call}
use Rattle.vch_model.specs.declared.call.Call.TheVariants as calls
use Rattle.vch_model.specs.declared.call.Line.{Line}
use Rattle.vch_model.specs.declared.entry.Entry.{Entry}
use Rattle.vch_model.specs.declared.entry.Entry.TheVariants as entries
use Rattle.vch_model.specs.declared.lists.Scenario.{Scenario}
use Rattle.vch_model.specs.declared.total.Total.{Total}
use Rattle.vch_model.specs.Grammar.{IsSmall}
use Rattle.vch_model.specs.Legal.{LegalPast}
use Rattle.vch_model.specs.Lines.{line_at}
use Rattle.vch_model.specs.Scenarios.{IsIn, IsLimited}
use Rattle.vch_model.specs.Text.{spaced, totals_from, totals_of}
use Rattle.vch_model.specs.Totals.{is_done, ledger, held, out}
use Rattle.vch_legal.specs.Conserved.{accepted, charge_in, dues, each_task}
use Rattle.vch_legal.proofs.CallerLemmas.{charges_are_kept, line_has}
use Rattle.vch_replay.specs.Loads.{number_line, ledger_lines, credited}

module _ {X : Type 0} (xs : List X) (i : ℕ) (x : X) (e : slice_get xs i ≡ Some x) where
  pub sum_next : (f : X → ℕ) → sum_by f (take (i + 1) xs) ≡ sum_by f (take i xs) + f x
  sum_next f = sum_by_more f xs i x (slice_get_within xs i x e) ∙ ap (λ y. sum_by f (take i xs) + f y) (get_or_from_slice_get xs i x x e)

  pub sum_fits : (f : X → ℕ) → sum_by f (take i xs) + f x ≤ sum_by f xs
  sum_fits f = let a : sum_by f (take (i + 1) xs) ≤ sum_by f xs = sum_by-take-le f xs (i + 1) in omega (arith, a, sum_next f)

pub one_at_most : (b : Bool) → cond b 1 0 ≤ 1
one_at_most true = omega arith
one_at_most false = omega arith

abbrev ledger_line : ℕ → Total → List ℕ
ledger_line t x = number_line (codes "task" ++ spaced t ++ codes " ledger") x.ledger

pub ledger_next : (ts : List Total) (t i : ℕ) (x : Total) → slice_get ts i ≡ Some x
    → ledger_lines t (take (i + 1) ts) ≡ ledger_lines t (take i ts) ++ ledger_line (t + i) x
ledger_next [] t i x h = absurd cc
ledger_next (y ∷ ts) t zero x h = let same : y ≡ x = cc in let n : t ≡ t + 0 = omega arith in
    append-nil (ledger_line t y) ∙ ap (λ z. ledger_line t z) same ∙ ap (λ k. ledger_line k x) n
ledger_next (y ∷ ts) t (suc i) x h =
    let n : suc i + 1 ≡ suc (i + 1) = omega arith in
    let k : t + 1 + i ≡ t + suc i = omega arith in
    rw n (ap (λ l. ledger_line t y ++ l) (ledger_next ts (t + 1) i x h
    ∙ ap (λ m. ledger_lines (t + 1) (take i ts) ++ ledger_line m x) k)
    ∙ sym (append_assoc (ledger_line t y) (ledger_lines (t + 1) (take i ts)) (ledger_line (t + suc i) x)))

pub pushed : (old x y z mid new : List ℕ) → mid ≡ old ++ x → new ≡ mid ++ y → z ≡ x ++ y → new ≡ old ++ z
pushed old x y z mid new m n e = n ∙ ap (λ l. l ++ y) m ∙ append_assoc old x y ∙ ap (λ l. old ++ l) (sym e)

-- The ledgers add up to the accepted charges at most, and each charge is below 2 to the 32.

module _ (sc : Scenario) (limited : IsLimited sc) where
  one_charge : (call : Call) (phase t : ℕ) → IsSmall call → charge_in (Some (phase, record { task = t; call = call })) ≤ 4294967295
  one_charge (calls.Charge name n) phase t small = omega (arith, small.1)
  one_charge (calls.Create bytes) phase t small = omega arith
  one_charge (calls.GiveUp name) phase t small = omega arith
  one_charge (calls.Extract name key) phase t small = omega arith
  one_charge (calls.Recipes name) phase t small = omega arith
  one_charge (calls.Send to moving name id) phase t small = omega arith
  one_charge calls.Recv phase t small = omega arith
  one_charge (calls.Extern name adding n) phase t small = omega arith
  one_charge calls.Ledger phase t small = omega arith
  one_charge calls.Assertions phase t small = omega arith
  one_charge calls.Live phase t small = omega arith
  one_charge calls.Exit phase t small = omega arith

  line_charge : (t n : ℕ) → charge_in (line_at sc t n) ≤ 4294967295
  line_charge t n = by_line (line_at sc t n) refl
    where
      by_line : (o : Option (ℕ × Line)) → line_at sc t n ≡ o → charge_in o ≤ 4294967295
      by_line None e = omega arith
      by_line (Some l) e = let inside : IsIn sc.version (length sc.flags) l.1 = line_has (IsIn sc.version (length sc.flags)) sc t n l limited.lines e in
          one_charge l.1.call l.0 l.1.task inside.2

  accepted_few : (past : List Entry) → accepted sc past ≤ length past * 4294967295
  accepted_few [] = omega arith
  accepted_few (entries.Call t n w reply ∷ past) = by_done (is_done reply) (accepted_few past)
    where
      by_done : (b : Bool) → accepted sc past ≤ length past * 4294967295
          → (if b then accepted sc past + charge_in (line_at sc t n) else accepted sc past) ≤ suc (length past) * 4294967295
      by_done true a = let b : charge_in (line_at sc t n) ≤ 4294967295 = line_charge t n in omega (arith, a, b)
      by_done false a = omega (arith, a)
  accepted_few (entries.Made key value ∷ past) = let a : accepted sc past ≤ length past * 4294967295 = accepted_few past in omega (arith, a)
  accepted_few (entries.Released made ∷ past) = let a : accepted sc past ≤ length past * 4294967295 = accepted_few past in omega (arith, a)
  accepted_few (entries.Gone t name ∷ past) = let a : accepted sc past ≤ length past * 4294967295 = accepted_few past in omega (arith, a)
  accepted_few (entries.Lost t ∷ past) = let a : accepted sc past ≤ length past * 4294967295 = accepted_few past in omega (arith, a)
  accepted_few (entries.Phase ∷ past) = let a : accepted sc past ≤ length past * 4294967295 = accepted_few past in omega (arith, a)

  -- the ledgers of the tasks behind a number
  credits : (past : List Entry) (t : ℕ) (flags : List Flags)
      → each_task (ledger sc past) (t + length flags) ≡ each_task (ledger sc past) t + credited (totals_from sc past (t + 1) flags)
  credits past t [] = let n : t + 0 ≡ t = omega arith in ap (each_task (ledger sc past)) n ∙ omega arith
  credits past t (f ∷ flags) =
      let n : t + suc (length flags) ≡ t + 1 + length flags = omega arith in
      let s : suc t ≡ t + 1 = omega arith in
      let here : each_task (ledger sc past) (t + 1) ≡ each_task (ledger sc past) t + ledger sc past (t + 1) =
      subst (λ k. each_task (ledger sc past) k ≡ each_task (ledger sc past) t + ledger sc past k) s refl in
      let rest : each_task (ledger sc past) (t + 1 + length flags) ≡ each_task (ledger sc past) (t + 1) + credited (totals_from sc past (t + 1 + 1) flags) = credits past (t + 1) flags in
      let one : credited (totals_from sc past (t + 1) (f ∷ flags)) ≡ ledger sc past (t + 1) + credited (totals_from sc past (t + 1 + 1) flags) =
      sum_by-cons (λ (x : Total). x.ledger) (record { ledger = ledger sc past (t + 1); held = held sc past (t + 1); out = out sc past (t + 1) }) (totals_from sc past (t + 1 + 1) flags) in
      ap (each_task (ledger sc past)) n ∙ omega (arith, here, rest, one)

  pub credited_few : (past : List Entry) → LegalPast sc past → credited (totals_of sc past) ≤ length past * 4294967295
  credited_few past legal =
      let all : each_task (ledger sc past) (0 + length sc.flags) ≡ 0 + credited (totals_of sc past) = credits past 0 sc.flags in
      let n : 0 + length sc.flags ≡ length sc.flags = omega arith in
      let whole : accepted sc past ≡ each_task (ledger sc past) (length sc.flags) + dues sc past = charges_are_kept sc past legal in
      let few : accepted sc past ≤ length past * 4294967295 = accepted_few past in
      let same : each_task (ledger sc past) (0 + length sc.flags) ≡ each_task (ledger sc past) (length sc.flags) = ap (each_task (ledger sc past)) n in
      omega (arith, all, whole, few, same)
