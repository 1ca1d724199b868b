-- What the store sees of the state that a reply is about.
use Rattle.std.proofs.Common.{◌≡◌, ℕ, suc, ◌+◌, Bool, true, false, List, [], ◌∷◌, length, map, refl, sym, ap, ◌∙◌, arith, Option, Some, None, Ok, Err}
use Rattle.std.specs.Prelude.{nat_lt, not}
use Rattle.vch_base.specs.declared.value.Value.{Value}
use Rattle.vch_base.specs.Values.{is_default}
use Rattle.vch_model.specs.declared.lists.Scenario.{Scenario}
use Rattle.vch_model.specs.Voucher.{Voucher}
use Rattle.vch_model.specs.Store as store
use Rattle.vch_model.specs.After.{store_of}
use Rattle.vch_model.specs.Totals.{named_voucher, with_made, external}
use Rattle.vch_machine.specs.Naming.{handles_of}
use Rattle.vch_machine.specs.State.{Place, Living, Machine, tasked, seen, valued_option, living_at, value_at, value_of, message_of}
use Rattle.vch_legal.proofs.CallerLemmas.{names_seen, voucher_seen, member_seen, numbered, plain_numbered}
use Rattle.vch_legal.specs.Facts.{Fits}
use Rattle.vch_sums.proofs.CallerLemmas.{found_value}
use Rattle.vch_sums.specs.Summed.{Summed, IsSummed}
use Rattle.vch_base.specs.declared.codes.TheConstants.{KERN_INVALID_ARGUMENT, MIG_ARRAY_TOO_LARGE}
use Rattle.vch_base.specs.declared.key.Key.TheVariants as keys
use Rattle.vch_base.specs.declared.value.Value.TheVariants as values
use Rattle.vch_model.specs.declared.entry.Entry.{Entry}
use Rattle.vch_base.specs.declared.limits.TheConstants.{ARRAY_BYTES}
use Rattle.vch_model.specs.declared.call.Call.TheVariants as calls
use Rattle.vch_model.specs.declared.entry.Reply.TheVariants as replies
use Rattle.vch_model.specs.Eval.{create}
use Rattle.vch_model.specs.Replies.{refused, counting, created}
use Rattle.vch_machine.specs.Beginning.{store_reply}
use Rattle.vch_plain.specs.Counted.{all_handles, different_handles}
use Rattle.vch_plain.proofs.SeenVouchers.{vouchers_seen}
use Rattle.vch_machine.specs.Leaving.{made_of}
use Rattle.vch_plain.specs.Keeping.{Keeps}
use Rattle.vch_plain.specs.Replied.{ends_with, counted}

pub named_seen : (m : Machine) (t name : ℕ) → valued_option m.live (handles_of (tasked m t).names name) ≡ named_voucher (seen m) t name
named_seen m t name = sym (ap (λ (f : ℕ → Option Voucher). f name) (names_seen m t) ∙ voucher_seen m.live (tasked m t).names name)

as_long : {X Y : Type 0} (f : X → Y) (xs : List X) → length (map f xs) ≡ length xs
as_long f [] = refl
as_long f (x ∷ xs) = ap suc (as_long f xs)

pub full_seen : (sc : Scenario) (m : Machine) (t : ℕ)
    → store.is_full sc (seen m) t ≡ not (nat_lt (length (tasked m t).queue) (store.limit_of sc t))
full_seen sc m t = ap (λ (x : store.Member). not (nat_lt (length x.queue) (store.limit_of sc t))) (member_seen m t)
    ∙ ap (λ n. not (nat_lt n (store.limit_of sc t))) (as_long (message_of m.live) (tasked m t).queue)

-- the value at a place has its number
pub number_seen : (sc : Scenario) (m : Machine) (p : Place) (a : Living) → Fits sc m → seen m ≡ store_of sc m.past
    → living_at m.live p ≡ Some a → is_default a.value ≡ false → with_made (store_of sc m.past).live a.made ≡ Some a.value
number_seen sc m p a f same e plain =
    ap (λ (s : store.Store). with_made s.live a.made) (sym same)
    ∙ found_value (seen m).live a.made _ (numbered sc m f p a e (plain_numbered sc m p a f e plain)).0

-- the external count of the list at a handle
pub external_seen : (sc : Scenario) (m : Machine) (sums : Summed) (h amount : ℕ) (list : List ℕ) → Keeps sc m sums
    → value_at m.live keys.Importance (Some h) ≡ Some (values.Chain list)
    → ((other : Scenario) (past : List Entry) (xs : List ℕ) → IsSummed other past sums
    → with_made (store_of other past).live (made_of (living_at m.live (record { key = keys.Importance; handle = h }))) ≡ Some (values.Chain xs)
    → amount ≡ external other past (values.Chain xs))
    → amount ≡ external sc m.past (values.Chain list)
external_seen sc m sums h amount list k e told =
    of_living (living_at m.live (record { key = keys.Importance; handle = h })) refl e
  where
    chain : {x : Value} → Some x ≡ Some (values.Chain list) → x ≡ values.Chain list
    chain g = cc

    of_living : (o : Option Living) → living_at m.live (record { key = keys.Importance; handle = h }) ≡ o → value_of o ≡ Some (values.Chain list)
        → amount ≡ external sc m.past (values.Chain list)
    of_living None f g = cc
    of_living (Some a) f g = told sc m.past list k.summed
        (ap (λ o. with_made (store_of sc m.past).live (made_of o)) f
        ∙ (number_seen sc m (record { key = keys.Importance; handle = h }) a k.ties.fits k.ties.same_store f (ap is_default (chain g)) ∙ g))

-- a change of an external count is answered by its value
pub counts_seen : (sc : Scenario) (past : List Entry) (t n amount : ℕ) (adding : Bool) (o : Option Value) → ends_with t o ≡ true
    → ((list : List ℕ) → o ≡ Some (values.Chain list) → amount ≡ external sc past (values.Chain list))
    → counted amount adding n ≡ counting sc past t adding n o
counts_seen sc past t n amount adding None e told = cc
counts_seen sc past t n amount adding (Some (values.Chain list)) e told = rw e (ap (λ a. counted a adding n) (told list refl))
counts_seen sc past t n amount adding (Some (values.User bytes)) e told = cc
counts_seen sc past t n amount adding (Some values.Default) e told = cc
counts_seen sc past t n amount adding (Some (values.Task u)) e told = cc
counts_seen sc past t n amount adding (Some (values.Account a b)) e told = cc

pub counts_none : (sc : Scenario) (past : List Entry) (t n : ℕ) (adding : Bool) (o : Option Value) → ends_with t o ≡ false
    → refused KERN_INVALID_ARGUMENT ≡ counting sc past t adding n o
counts_none sc past t n adding None e = refl
counts_none sc past t n adding (Some x) e = rw e refl

-- a create of no bytes makes no voucher, and one of too many is refused
none_made : (version : ℕ) (names : ℕ → Option Voucher) (t : ℕ) (bytes : List ℕ) → length bytes ≡ 0 → create version names t bytes ≡ Ok None
unfolding create
none_made version names t [] e = refl
none_made version names t (b ∷ bytes) e = absurd (omega (arith, e))

too_many : (version : ℕ) (names : ℕ → Option Voucher) (t : ℕ) (bytes : List ℕ) → nat_lt ARRAY_BYTES (length bytes) ≡ true
    → create version names t bytes ≡ Err MIG_ARRAY_TOO_LARGE
unfolding create
too_many version names t bytes e = rw e refl

pub created_none : (sc : Scenario) (m : Machine) (t : ℕ) (bytes : List ℕ) → length bytes ≡ 0
    → replies.Created 0 ≡ store_reply sc m t (calls.Create bytes)
created_none sc m t bytes e = sym (ap (created (seen m) t) (none_made sc.version (store.voucher_of (store.member (seen m) t).names) t bytes e))

pub created_many : (sc : Scenario) (m : Machine) (t : ℕ) (bytes : List ℕ) → nat_lt ARRAY_BYTES (length bytes) ≡ true
    → refused MIG_ARRAY_TOO_LARGE ≡ store_reply sc m t (calls.Create bytes)
created_many sc m t bytes e = sym (ap (created (seen m) t) (too_many sc.version (store.voucher_of (store.member (seen m) t).names) t bytes e))

-- how much lives
pub living_seen : (sc : Scenario) (m : Machine) (t vouchers values : ℕ) → Fits sc m → seen m ≡ store_of sc m.past
    → vouchers ≡ different_handles (all_handles m.tasks) → values ≡ length (store_of sc m.past).live + 1
    → replies.Live vouchers values ≡ store_reply sc m t calls.Live
living_seen sc m t vouchers values f same a b =
    both _ _ _ _ (a ∙ sym (vouchers_seen sc m f)) (b ∙ (more _ ∙ ap (λ (s : store.Store). 1 + length s.live) (sym same)))
  where
    both : (a b c d : ℕ) → a ≡ c → b ≡ d → replies.Live a b ≡ replies.Live c d
    both a b c d p q = cc

    more : (n : ℕ) → n + 1 ≡ 1 + n
    more n = omega arith
