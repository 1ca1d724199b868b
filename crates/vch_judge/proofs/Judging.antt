-- What any reply does.
use Rattle.std.proofs.Common.{◌≡◌, ◌↔◌, ◌⊎◌, ℕ, Bool, true, false, refl, sym, ap, ◌∙◌, subst, inl, inr, if◌then◌else◌, Option, Some, None}
use Rattle.std.specs.Prelude.{IsTrue}
use Rattle.vch_base.specs.declared.codes.TheConstants.{KERN_RESOURCE_SHORTAGE}
use Rattle.vch_model.specs.Legal.{IsAnswer, IsReplied, IsWanting, IsLeaving, is_exit}
use Rattle.vch_model.specs.Replies.{refused}
use Rattle.vch_model.specs.declared.call.Call.{Call}
use Rattle.vch_model.specs.declared.call.Call.TheVariants as calls
use Rattle.vch_model.specs.declared.entry.Reply.{Reply}
use Rattle.vch_books.specs.Audits.{Audit, store_at, past_at}
use Rattle.vch_judge.specs.Effects.{IsOwn, IsJudged, IsUncountedCall, left_at}
use Rattle.vch_judge.specs.declared.effect.Effect.TheVariants as effects
use Rattle.vch_judge.proofs.Owning.{unlike}

exit_is : (call : Call) → is_exit call ≡ true → call ≡ calls.Exit
exit_is calls.Exit e = refl
exit_is (calls.Create bytes) e = absurd (unlike e)
exit_is (calls.GiveUp name) e = absurd (unlike e)
exit_is (calls.Extract name key) e = absurd (unlike e)
exit_is (calls.Recipes name) e = absurd (unlike e)
exit_is (calls.Send to moving name id) e = absurd (unlike e)
exit_is calls.Recv e = absurd (unlike e)
exit_is (calls.Extern name adding n) e = absurd (unlike e)
exit_is (calls.Charge name n) e = absurd (unlike e)
exit_is calls.Ledger e = absurd (unlike e)
exit_is calls.Assertions e = absurd (unlike e)
exit_is calls.Live e = absurd (unlike e)

pub judge_want : (a : Audit) (t : ℕ) (call : Call) (reply : Reply) (right : Bool) → (call ≡ calls.Exit → ⊥) → IsOwn a t call reply None
    → (IsTrue right ↔ IsWanting a.scenario (past_at a) (store_at a) t call reply)
    → IsJudged a t call reply (if right then Some effects.Stay else None)
judge_want a t call reply true other own h = record {
  answer = inr (inl (h.0 refl));
  leaves = ap (left_at a t call) (h.0 refl).0;
  fits = tt;
  counted = subst (IsUncountedCall call) (sym (h.0 refl).0) (inr refl);
}
judge_want a t call reply false other own h = λ i. by_answer i
  where
    by_answer : IsAnswer a.scenario (past_at a) (store_at a) t call reply → ⊥
    by_answer (inl r) = own r
    by_answer (inr (inl w)) = unlike (h.1 w)
    by_answer (inr (inr l)) = other (exit_is call l.0)
