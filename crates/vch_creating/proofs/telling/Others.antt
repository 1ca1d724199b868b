-- What is replied where there is memory is never the refusal of a call that is out of memory.
use Rattle.std.proofs.Common.{◌≡◌, ℕ, nat_lt, Bool, true, false, refl, sym, subst, Option, Some, None}
use Rattle.vch_base.specs.declared.key.Key.{Key}
use Rattle.vch_base.specs.declared.limits.TheConstants.{ARRAY_BYTES}
use Rattle.vch_base.specs.Keys.{key_of}
use Rattle.vch_model.specs.Replies.{content_at, extracted, recipes_of}
use Rattle.vch_model.specs.Voucher.{Voucher}
use Rattle.vch_model.specs.declared.entry.Reply.{Reply}
use Rattle.vch_answers.specs.Answered.{IsOtherReply}
use Rattle.vch_creating.specs.Beginnings.{create_answer}

content_other : (o : Option Key) (v : Voucher) → IsOtherReply (content_at o v)
content_other None v = λ q. cc
content_other (Some k) v = tt

pub extract_other : (version key : ℕ) (o : Option Voucher) (reply : Reply) → reply ≡ extracted version key o → IsOtherReply reply
extract_other version key None reply e = subst IsOtherReply (sym e) (λ q. cc)
extract_other version key (Some v) reply e = subst IsOtherReply (sym e) (content_other (key_of version key) v)

pub recipes_other : (t : ℕ) (o : Option Voucher) (reply : Reply) → reply ≡ recipes_of t o → IsOtherReply reply
recipes_other t None reply e = subst IsOtherReply (sym e) (λ q. cc)
recipes_other t (Some v) reply e = subst IsOtherReply (sym e) tt

pub create_other : (n : ℕ) (reply : Reply) → reply ≡ create_answer n → IsOtherReply reply
create_other n reply e = subst IsOtherReply (sym e) (by (nat_lt ARRAY_BYTES n) refl)
  where
    by : (z : Bool) → nat_lt ARRAY_BYTES n ≡ z → IsOtherReply (create_answer n)
    by true q = rw q (λ x. cc)
    by false q = rw q tt
