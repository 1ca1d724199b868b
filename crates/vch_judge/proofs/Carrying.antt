-- How the books take a call.
use Rattle.std.proofs.Common.{◌≡◌, ◌⊎◌, ℕ, ◌+◌, Bool, true, false, ◌==◌, ◌&&◌, refl, sym, ap, ◌∙◌, subst, inl, inr, if◌then◌else◌, List, length, Option, Some, None}
use Rattle.std.specs.Prelude.{not}
use Rattle.vch_model.specs.After.{is_want, store_after_line, store_after_call}
use Rattle.vch_model.specs.Lines.{line_at, calls_in, phases_in, current_call, call_of_phase}
use Rattle.vch_model.specs.Store.{Store}
use Rattle.vch_model.specs.Totals.{is_done}
use Rattle.vch_model.specs.declared.call.Call.{Call}
use Rattle.vch_model.specs.declared.call.Line.{Line}
use Rattle.vch_model.specs.declared.entry.Entry.{Entry}
use Rattle.vch_model.specs.declared.entry.Reply.{Reply}
use Rattle.vch_model.specs.declared.lists.Scenario.{Scenario}
use Rattle.vch_machine.specs.Next.{nth_call, call_in}
use Rattle.vch_legal.specs.ValueAmounts.{is_counting}
use Rattle.vch_sums.specs.Summed.{is_counting_line}
use Rattle.vch_books.specs.Audits.{Audit, Leaves, store_at, past_at}
use Rattle.vch_judge.specs.Effects.{IsCounted, IsUncountedCall, changed_at}
use Rattle.vch_judge.specs.Follows.{IsNextCall}
use Rattle.vch_judge.specs.declared.effect.Effect.{Effect}

no_call : (call : Call) → ◌≡◌ {A = Option Call} None (Some call) → ⊥
no_call call e = cc

some_call : (a b : Call) → Some a ≡ Some b → a ≡ b
some_call a b e = cc

-- the current call is that of the task's next line
pub current_line : (sc : Scenario) (past : List Entry) (t : ℕ) (call : Call) → current_call sc past t ≡ Some call
    → nth_call sc t (calls_in past t + 1) ≡ Some call
current_line sc past t call e = by_line (line_at sc t (calls_in past t + 1)) e
  where
    by_line : (o : Option (ℕ × Line)) → call_of_phase (phases_in past + 1) o ≡ Some call → call_in o ≡ Some call
    by_line None e = absurd (no_call call e)
    by_line (Some l) e = by_phase (l.0 == phases_in past + 1) e
      where
        by_phase : (b : Bool) → (if b then Some l.1.call else None) ≡ Some call → Some l.1.call ≡ Some call
        by_phase true e = e
        by_phase false e = absurd (no_call call e)

line_after : (sc : Scenario) (s : Store) (t : ℕ) (o : Option (ℕ × Line)) (call : Call) → call_in o ≡ Some call
    → store_after_line sc s t o ≡ store_after_call sc s t call
line_after sc s t None call e = absurd (no_call call e)
line_after sc s t (Some l) call e = ap (store_after_call sc s t) (some_call l.1.call call e)

and_false : (b : Bool) → (b && false) ≡ false
and_false true = refl
and_false false = refl

not_counting : (reply : Reply) (o : Option Call) (call : Call) → o ≡ Some call → IsUncountedCall call reply
    → not (is_done reply && is_counting_line o) ≡ true
not_counting reply o call e (inl h) = ap (λ x. not (is_done reply && is_counting_line x)) e
    ∙ (ap (λ b. not (is_done reply && b)) h ∙ ap not (and_false (is_done reply)))
not_counting reply o call e (inr h) = ap (λ b. not (b && is_counting_line o)) h

pub leaves_by : (a : Audit) (t : ℕ) (effect known : Effect) → effect ≡ known → IsNextCall a t effect
    → ((call : Call) (reply : Reply) → IsCounted call reply known → IsUncountedCall call reply) → Leaves a t (changed_at a t known)
leaves_by a t effect known e next counted = of_next (subst (IsNextCall a t) e next)
  where
    of_next : IsNextCall a t known → Leaves a t (changed_at a t known)
    of_next n =
        let line : nth_call a.scenario t n.number ≡ Some n.follows.call =
        ap (nth_call a.scenario t) n.follows.follows.0 ∙ current_line a.scenario (past_at a) t n.follows.call n.follows.current in
        record {
          number = n.number;
          word = n.word;
          reply = n.reply;
          next = record { here = n.here; follows = n.follows.follows };
          leaves = ap (λ x. if is_want n.reply then store_at a else x)
              (line_after a.scenario (store_at a) t (line_at a.scenario t n.number) n.follows.call line) ∙ n.follows.does.leaves;
          passed = not_counting n.reply (nth_call a.scenario t n.number) n.follows.call line (counted n.follows.call n.reply n.follows.does.counted);
        }
