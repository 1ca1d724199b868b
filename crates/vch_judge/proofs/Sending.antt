-- What a right reply to a send and a recv does.
use Rattle.std.proofs.Common.{◌≡◌, ◌↔◌, ℕ, Bool, true, false, List, [], ◌∷◌, refl, sym, ap, ◌∙◌, subst, inl, if◌then◌else◌, Option, Some, None}
use Rattle.std.specs.Prelude.{◌==◌, IsTrue}
use Rattle.vch_model.specs.After.{appended, let_go, taken_first, received}
use Rattle.vch_model.specs.Legal.{option_all_live, voucher_given, voucher_received}
use Rattle.vch_model.specs.Lines.{is_task}
use Rattle.vch_model.specs.Replies.{reply_to, receiving}
use Rattle.vch_model.specs.Store as store
use Rattle.vch_model.specs.Store.{member, given, gives_name, all_live}
use Rattle.vch_model.specs.Totals.{named_voucher}
use Rattle.vch_model.specs.Transfer.{before, after}
use Rattle.vch_model.specs.declared.call.Call.TheVariants as calls
use Rattle.vch_model.specs.declared.entry.Reply.{Reply}
use Rattle.vch_model.specs.declared.entry.Reply.TheVariants as replies
use Rattle.vch_books.specs.Audits.{Audit, IsSound, IsGood, store_at, past_at, meant, first_of, rest_of}
use Rattle.vch_books.specs.declared.numbers.Numbers.{Numbers}
use Rattle.vch_books.specs.declared.rows.Message.{Message}
use Rattle.vch_judge.specs.Effects.{IsOwn, left_at, changed_at}
use Rattle.vch_judge.specs.declared.effect.Effect.TheVariants as effects
use Rattle.vch_judge.proofs.FormedVouchers.{good_live}
use Rattle.vch_judge.proofs.Owning.{own_where}

abbrev pub queued_message : ℕ → ℕ → Numbers → Message
queued_message t id w = record { sender = t; id = id; voucher = Some w }

module _ (a : Audit) (t to : ℕ) (moving : Bool) (name id : ℕ) (v w : Numbers) (reply : Reply) (right : Bool)
    (task : is_task a.scenario to ≡ true) (room : store.is_full a.scenario (store_at a) to ≡ false) (some : (name == 0) ≡ false)
    (known : named_voucher (store_at a) t name ≡ Some (meant a v)) (sound : IsSound a) (good : IsGood a w) (mean : meant a w ≡ before t (meant a v)) where
  sent_reply : reply_to a.scenario (past_at a) (store_at a) t (calls.Send to moving name id) ≡ replies.Done
  sent_reply = rw (task, some, known, room) refl

  sent_live : option_all_live (store_at a) (voucher_given a.scenario (store_at a) t (calls.Send to moving name id)) ≡ true
  sent_live = rw (task, some, room, known) (ap (all_live (store_at a)) (sym mean) ∙ good_live a w sound good)

  pub send_moved : moving ≡ true → (IsTrue right ↔ (reply ≡ replies.Done))
      → IsOwn a t (calls.Send to moving name id) reply (if right then Some (effects.SendMoved to (queued_message t id w) name) else None)
  send_moved moves h = own_where a t (calls.Send to moving name id) reply replies.Done right (effects.SendMoved to (queued_message t id w) name) refl sent_reply h sent_live
      (rw (task, some, known, room, moves)
      (ap (λ m. let_go (appended (store_at a) to (record { sender = t; id = id; voucher = Some m })) t name) (sym mean))) (task, good) (inl refl)

  pub send_copied : moving ≡ false → (IsTrue right ↔ (reply ≡ replies.Done))
      → IsOwn a t (calls.Send to moving name id) reply (if right then Some (effects.Send to (queued_message t id w)) else None)
  send_copied moves h = own_where a t (calls.Send to moving name id) reply replies.Done right (effects.Send to (queued_message t id w)) refl sent_reply h sent_live
      (rw (task, some, known, room, moves)
      (ap (λ m. appended (store_at a) to (record { sender = t; id = id; voucher = Some m })) (sym mean))) (task, good) (inl refl)

some_message : (x y : store.Message) → Some x ≡ Some y → x ≡ y
some_message x y e = cc

no_message : (x : store.Message) → ◌≡◌ {A = Option store.Message} (Some x) None → ⊥
no_message x e = cc

pub recv_given : (a : Audit) (t : ℕ) (reply : Reply) (v w : Numbers) (sender id name : ℕ) (right : Bool) (q : List store.Message)
    → (member (store_at a) t).queue ≡ q → Some (record { sender = sender; id = id; voucher = Some (meant a v) }) ≡ first_of q
    → IsSound a → IsGood a w → meant a w ≡ after a.scenario t (meant a v)
    → ((queue : List store.Message) → name ≡ gives_name (taken_first (store_at a) t queue) t (meant a w))
    → (IsTrue right ↔ (reply ≡ replies.Received sender id name))
    → IsOwn a t calls.Recv reply (if right then Some (effects.ReceiveVoucher w) else None)
recv_given a t reply v w sender id name right [] e f sound good mean n h =
    absurd (no_message _ f)
recv_given a t reply v w sender id name right (m ∷ rest) e f sound good mean n h =
    let e2 : (member (store_at a) t).queue ≡ record { sender = sender; id = id; voucher = Some (meant a v) } ∷ rest =
    e ∙ ap (λ x. x ∷ rest) (sym (some_message _ _ f)) in
    own_where a t calls.Recv reply (replies.Received sender id name) right (effects.ReceiveVoucher w) refl
    (ap (receiving a.scenario (store_at a) t) e2
    ∙ (ap (λ x. replies.Received sender id (gives_name (taken_first (store_at a) t rest) t x)) (sym mean) ∙ ap (replies.Received sender id) (sym (n rest)))) h
    (ap (λ q. option_all_live (store_at a) (voucher_received a.scenario t q)) e2 ∙ (ap (all_live (store_at a)) (sym mean) ∙ good_live a w sound good))
    (ap (received a.scenario (store_at a) t) e2
    ∙ (ap (given (taken_first (store_at a) t rest) t) (sym mean) ∙ ap (λ q. given (taken_first (store_at a) t (rest_of q)) t (meant a w)) (sym e2)))
    good (inl refl)
