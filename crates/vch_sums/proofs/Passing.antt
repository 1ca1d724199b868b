-- Entries that change no sum.
use Rattle.std.proofs.Common.{◌≡◌, ℕ, Bool, List, ◌∷◌, refl, true, false, sym, ap, ◌∙◌, Some}
use Rattle.std.specs.Prelude.{◌&&◌, not}
use Rattle.vch_model.specs.declared.call.Call.{Call}
use Rattle.vch_model.specs.declared.call.Word.{Word}
use Rattle.vch_model.specs.declared.entry.Entry.{Entry}
use Rattle.vch_model.specs.declared.entry.Entry.TheVariants as entries
use Rattle.vch_model.specs.declared.entry.Reply.{Reply}
use Rattle.vch_model.specs.declared.lists.Scenario.{Scenario}
use Rattle.vch_model.specs.Store.{member}
use Rattle.vch_model.specs.Lines.{line_at}
use Rattle.vch_model.specs.After.{store_of, is_want}
use Rattle.vch_model.specs.Totals.{is_done, ledger}
use Rattle.vch_machine.specs.Next.{nth_call, call_in}
use Rattle.vch_model.specs.declared.call.Line.{Line}
use Rattle.vch_model.specs.Legal.{IsAnswer}
use Rattle.vch_legal.specs.ValueAmounts.{IsUncounted}
use Rattle.vch_legal.proofs.CallerLemmas.{phase_uncounted, gone_uncounted, lost_uncounted, refused_uncounted, call_uncounted, call_live, cases_bool, answered_line}
use Rattle.vch_sums.specs.Summed.{Summed, IsSummed, Follows, is_passed, is_counting_line}
use Rattle.vch_sums.proofs.Live.{lost_live}
use Rattle.vch_sums.proofs.Tasks.{same_of}
use Rattle.vch_sums.proofs.Counting.{credits}

uncounted : (sc : Scenario) (past : List Entry) (entry : Entry) (sums : Summed) → (store_of sc (entry ∷ past)).live ≡ (store_of sc past).live
    → IsUncounted sc past entry → IsSummed sc past sums → IsSummed sc (entry ∷ past) sums
uncounted sc past entry sums live u is = credits sc past (entry ∷ past) sums sums.ledgers live u.amounts
    (same_of _ sums.ledgers (ledger sc past) (ledger sc (entry ∷ past)) is.ledgers u.ledgers) is

passed_call : (sc : Scenario) (past : List Entry) (t n : ℕ) (word : Word) (reply : Reply) (sums : Summed)
    → not (is_done reply && is_counting_line (nth_call sc t n)) ≡ true → Follows sc past (entries.Call t n word reply) sums sums
passed_call sc past t n word reply sums e h is = of_line (answered_line sc past t n (store_of sc past) word reply h.1.0 h.1.1)
  where
    still : (store_of sc (entries.Call t n word reply ∷ past)).live ≡ (store_of sc past).live
    still = call_live sc (store_of sc past) t (line_at sc t n) (is_want reply)

    not_both : (a b : Bool) → not (a && b) ≡ true → a ≡ true → b ≡ false
    not_both true true p q = cc
    not_both true false p q = refl
    not_both false b p q = cc

    of_call : (call : Call) → nth_call sc t n ≡ Some call → IsSummed sc (entries.Call t n word reply ∷ past) sums
    of_call call there = cases_bool (is_done reply) (IsSummed sc (entries.Call t n word reply ∷ past) sums)
        (λ done. uncounted sc past (entries.Call t n word reply) sums still
        (call_uncounted sc past t n word reply call there
        (sym (ap is_counting_line there) ∙ not_both (is_done reply) (is_counting_line (nth_call sc t n)) e done)) is)
        (λ refused. uncounted sc past (entries.Call t n word reply) sums still (refused_uncounted sc past t n word reply refused) is)

    of_line : (l : ℕ × Line) × (line_at sc t n ≡ Some l) × IsAnswer sc past (store_of sc past) t l.1.call reply
        → IsSummed sc (entries.Call t n word reply ∷ past) sums
    of_line (l, g, a) = of_call l.1.call (ap call_in g)

-- an entry that passes leaves the sums as they are
pub passed : (sc : Scenario) (past : List Entry) (entry : Entry) (sums : Summed) → is_passed sc entry ≡ true → Follows sc past entry sums sums
passed sc past (entries.Call t n word reply) sums e h is = passed_call sc past t n word reply sums e h is
passed sc past (entries.Made key x) sums e h is = cc
passed sc past (entries.Released number) sums e h is = cc
passed sc past (entries.Gone t name) sums e h is = uncounted sc past (entries.Gone t name) sums refl (gone_uncounted sc past t name) is
passed sc past (entries.Lost t) sums e h is =
    uncounted sc past (entries.Lost t) sums (lost_live (store_of sc past) t (member (store_of sc past) t).queue) (lost_uncounted sc past t) is
passed sc past entries.Phase sums e h is = uncounted sc past entries.Phase sums refl (phase_uncounted sc past) is
