-- What whoever asks the books may know of them.
use Rattle.std.proofs.Common.{◌≡◌, ℕ, Bool, refl, true, ap, sym, ◌∙◌, subst, Some, inl, inr, ◌&&◌, ◌||◌, arith}
use Rattle.std.specs.Prelude.{Option, None}
use Rattle.std.specs.List.{list_any}
use Rattle.vch_base.specs.declared.key.Key.{Key}
use Rattle.vch_base.specs.declared.key.Key.TheVariants as keys
use Rattle.vch_base.specs.Keys.{number_of}
use Rattle.vch_base.specs.Values.{is_default}
use Rattle.vch_model.specs.Store.{is_alive, is_live, all_live, option_live}
use Rattle.vch_books.specs.declared.numbers.Numbers.{Numbers}
use Rattle.vch_books.specs.Numbered.{IsAmong, StandsAt, Stands, at_key, entry_at, key_made, numbered_value, numbered_option}
use Rattle.vch_books.specs.Audits.{Audit, store_at, meant, IsGood, IsSound}
use Rattle.vch_books.specs.Kept.{Lists, Keeps, IsOneOf}
use Rattle.vch_books.proofs.Values.{eq_refl, values_refl}
use Rattle.vch_books.proofs.Alike.{one_of, made_of, plain_is, default_is}
use Rattle.vch_books.proofs.Keeping.{live_kept}
use Rattle.vch_books.proofs.LiveChanges.{any_one, not_both}

or_right : (a b : Bool) → b ≡ true → (a || b) ≡ true
or_right a b e = grind arith

both : (a b : Bool) → a ≡ true → b ≡ true → (a && b) ≡ true
both a b e f = grind arith

pub sound_kept : (a : Audit) (l : Lists) → Keeps a l → IsSound a
sound_kept a l k = record {
  limited = k.limited;
  short = k.short;
  inside = k.inside;
  legal = k.legal;
  numbered = record {
    live = λ e p. or_right (is_default (numbered_value a.history e)) _ (subst (λ ls. list_any (is_alive (key_made (entry_at a.history e)) (numbered_value a.history e)) ls ≡ true) (sym (live_kept a l k))
        (any_one a.history (is_alive (key_made (entry_at a.history e)) (numbered_value a.history e)) l.live e (one e p) (both _ _ (eq_refl (key_made (entry_at a.history e))) (values_refl (numbered_value a.history e)))));
    plain = λ e p. plain_is a.history a.taken e (made_of a.history a.taken l.live e k.made (one e p));
    apart = λ d e p q. k.apart d e (one d p) (one e q);
  };
}
  where
    one : (e : ℕ) → IsAmong (store_at a).live e → IsOneOf l.live e
    one e p = one_of a.history l.live e (subst (λ ls. IsAmong ls e) (live_kept a l k) p)

-- a number that stands at a key is that of a live value
pub standing_live : (a : Audit) (k : Key) (e : ℕ) → IsSound a → StandsAt a.history (store_at a).live k (Some e) → is_live (store_at a) (number_of k) (numbered_value a.history e) ≡ true
standing_live a k e s (inl z) = rw (default_is a.history e z) refl
standing_live a k e s (inr p) = subst (λ n. is_live (store_at a) n (numbered_value a.history e) ≡ true) p.1 (s.numbered.live e p.0)

-- numbers that stand at a key are equal where their values are
pub standing_same : (a : Audit) (k : Key) (d e : ℕ) → IsSound a → StandsAt a.history (store_at a).live k (Some d) → StandsAt a.history (store_at a).live k (Some e)
    → numbered_value a.history d ≡ numbered_value a.history e → d ≡ e
standing_same a k d e s (inl y) (inl z) q = y ∙ sym z
standing_same a k d e s (inl y) (inr p) q = absurd (not_both (ap is_default (sym q ∙ default_is a.history d y)) (s.numbered.plain e p.0))
standing_same a k d e s (inr p) (inl z) q = absurd (not_both (ap is_default (q ∙ default_is a.history e z)) (s.numbered.plain d p.0))
standing_same a k d e s (inr p) (inr r) q = s.numbered.apart d e p.0 r.0 (p.1 ∙ sym r.1) q

option_is_live : (a : Audit) (k : Key) (v : Numbers) → IsSound a → IsGood a v → option_live (store_at a) (number_of k) (numbered_option a.history (at_key k v)) ≡ true
unfolding Stands
option_is_live a k v s g = by (at_key k v) (g k)
  where
    by : (o : Option ℕ) → StandsAt a.history (store_at a).live k o → option_live (store_at a) (number_of k) (numbered_option a.history o) ≡ true
    by None p = refl
    by (Some e) p = standing_live a k e s p

-- the values of a voucher that is good are live
pub good_live : (a : Audit) (v : Numbers) → IsSound a → IsGood a v → all_live (store_at a) (meant a v) ≡ true
good_live a v s g =
    rw (option_is_live a keys.Importance v s g, option_is_live a keys.Bank v s g, option_is_live a keys.User v s g, option_is_live a keys.Test v s g) refl
