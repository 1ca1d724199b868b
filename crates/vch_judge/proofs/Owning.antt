-- What a right reply does.
use Rattle.std.proofs.Common.{◌≡◌, ◌↔◌, ℕ, Bool, true, false, List, refl, sym, ap, ◌∙◌, subst, inl, inr, if◌then◌else◌, length, Option, Some, None, Result, Ok, Err, nat_lt}
use Rattle.std.specs.Prelude.{ℤ, ◌==◌, IsTrue}
use Rattle.vch_base.specs.declared.codes.TheConstants.{MIG_ARRAY_TOO_LARGE}
use Rattle.vch_base.specs.declared.limits.TheConstants.{ARRAY_BYTES}
use Rattle.vch_base.specs.declared.fault.Code.{Code}
use Rattle.vch_model.specs.After.{is_want, placed}
use Rattle.vch_model.specs.Eval.{create}
use Rattle.vch_model.specs.Legal.{is_exit, option_all_live, voucher_given, voucher_made}
use Rattle.vch_model.specs.Replies.{reply_to, refused, created}
use Rattle.vch_model.specs.Store.{Store, gives_name, all_live}
use Rattle.vch_model.specs.Voucher.{Voucher}
use Rattle.vch_model.specs.declared.call.Call.{Call}
use Rattle.vch_model.specs.declared.call.Call.TheVariants as calls
use Rattle.vch_model.specs.declared.entry.Reply.{Reply}
use Rattle.vch_model.specs.declared.entry.Reply.TheVariants as replies
use Rattle.vch_books.specs.Audits.{Audit, IsSound, IsGood, store_at, past_at, meant}
use Rattle.vch_books.specs.declared.numbers.Numbers.{Numbers}
use Rattle.vch_judge.specs.Creates.{names_at, IsCreated}
use Rattle.vch_judge.specs.Effects.{IsOwn, Fits, IsCounted, left_at, changed_at}
use Rattle.vch_judge.specs.Formed.{IsVoucher}
use Rattle.vch_judge.specs.declared.effect.Effect.{Effect}
use Rattle.vch_judge.specs.declared.effect.Effect.TheVariants as effects
use Rattle.vch_judge.proofs.FormedVouchers.{good_live}
use Rattle.vch_judge.proofs.Creating.{create_long, create_none}

pub unlike : false ≡ true → ⊥
unlike e = cc

module _ (a : Audit) (t : ℕ) (call : Call) (reply : Reply) where
  -- the effect where the reply is the one that is wanted
  pub own_where : (wanted : Reply) (right : Bool) (effect : Effect) → is_exit call ≡ false
      → reply_to a.scenario (past_at a) (store_at a) t call ≡ wanted → (IsTrue right ↔ (reply ≡ wanted))
      → option_all_live (store_at a) (voucher_given a.scenario (store_at a) t call) ≡ true
      → left_at a t call wanted ≡ changed_at a t effect → Fits a t effect → IsCounted call wanted effect
      → IsOwn a t call reply (if right then Some effect else None)
  own_where wanted true effect x r h live leaves fits counted = record {
    answer = inl (x, h.0 refl ∙ sym r, live);
    leaves = ap (left_at a t call) (h.0 refl) ∙ leaves;
    fits = fits;
    counted = subst (λ w. IsCounted call w effect) (sym (h.0 refl)) counted;
  }
  own_where wanted false effect x r h live leaves fits counted = λ i. unlike (h.1 (i.1 ∙ r))

  -- none where a value of the voucher that is given is not live
  pub own_dead : option_all_live (store_at a) (voucher_given a.scenario (store_at a) t call) ≡ false → IsOwn a t call reply None
  own_dead e = λ i. unlike (sym e ∙ i.2)

if_same : {A : Type 0} (b : Bool) (x : A) → (if b then x else x) ≡ x
if_same true x = refl
if_same false x = refl

module _ (a : Audit) (t : ℕ) (bytes : List ℕ) (reply : Reply) where
  pub create_refused : (code : ℤ) (right : Bool) → create a.scenario.version (names_at a t) t bytes ≡ Err code
      → (IsTrue right ↔ (reply ≡ refused code)) → IsOwn a t (calls.Create bytes) reply (if right then Some effects.Stay else None)
  create_refused code right e h =
      own_where a t (calls.Create bytes) reply (refused code) right effects.Stay refl (ap (created (store_at a) t) e) h
      (ap (λ o. option_all_live (store_at a) (voucher_made o)) e)
      (ap (λ o. if is_want (refused code) then store_at a else placed (store_at a) t o) e ∙ if_same (is_want (refused code)) (store_at a)) tt (inl refl)

  pub create_nothing : (right : Bool) → create a.scenario.version (names_at a t) t bytes ≡ Ok None
      → (IsTrue right ↔ (reply ≡ replies.Created 0)) → IsOwn a t (calls.Create bytes) reply (if right then Some effects.Stay else None)
  create_nothing right e h =
      own_where a t (calls.Create bytes) reply (replies.Created 0) right effects.Stay refl (ap (created (store_at a) t) e) h
      (ap (λ o. option_all_live (store_at a) (voucher_made o)) e) (ap (placed (store_at a) t) e) tt (inl refl)

  pub create_dead : IsCreated a t bytes (Ok None) → IsOwn a t (calls.Create bytes) reply None
  create_dead i = own_dead a t (calls.Create bytes) reply (ap (λ o. option_all_live (store_at a) (voucher_made o)) i.1 ∙ i.2)

  pub create_given : (v : Numbers) (name : ℕ) (right : Bool) → IsSound a → IsCreated a t bytes (Ok (Some v))
      → name ≡ gives_name (store_at a) t (meant a v) → (IsTrue right ↔ (reply ≡ replies.Created name))
      → IsOwn a t (calls.Create bytes) reply (if right then Some (effects.Give v) else None)
  create_given v name right sound i n h =
      let e : create a.scenario.version (names_at a t) t bytes ≡ Ok (Some (meant a v)) = i.1 ∙ ap (λ m. Ok (Some m)) (sym i.2.1) in
      own_where a t (calls.Create bytes) reply (replies.Created name) right (effects.Give v) refl
      (ap (created (store_at a) t) e ∙ ap replies.Created (sym n)) h
      (ap (λ o. option_all_live (store_at a) (voucher_made o)) e ∙ good_live a v sound i.2.0)
      (ap (placed (store_at a) t) e) i.2.0 (inl refl)
