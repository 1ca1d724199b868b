-- The next entry makes a value that is not live.
use Rattle.std.proofs.Common.{◌≡◌, ℕ, ◌+◌, ◌≤◌, ◌<◌, false, refl, arith, ap, sym, ◌∙◌, subst, None}
use Rattle.std.specs.Prelude.{is_some}
use Rattle.vch_base.specs.declared.value.Value.{Value}
use Rattle.vch_base.specs.Values.{is_default}
use Rattle.vch_model.specs.declared.entry.Entry.{Entry}
use Rattle.vch_model.specs.declared.entry.Entry.TheVariants as entries
use Rattle.vch_model.specs.Store.{is_live}
use Rattle.vch_books.specs.Holding.{number_with}
use Rattle.vch_books.specs.Numbered.{entry_at, key_made, numbered_value, store_of_lists}
use Rattle.vch_books.specs.Audits.{Audit, IsNext}
use Rattle.vch_books.specs.Kept.{Lists, Keeps, IsMade}
use Rattle.vch_books.specs.Living.{IsBelow}
use Rattle.vch_books.proofs.FoundLive.{found_some}
use Rattle.vch_books.proofs.Holdings.{none_of}
use Rattle.vch_books.proofs.Lists.{all_change}
use Rattle.vch_books.proofs.LiveChanges.{made_entry, made_value, neither_left, neither_right}

module _ (a : Audit) (l : Lists) (k : ℕ) (x : Value) (keeps : Keeps a l) (n : IsNext a (entries.Made k x)) where
  value : numbered_value a.history (a.taken + 1) ≡ x
  value = made_value a.history a.taken k x (made_entry a k x n.here)

  key : key_made (entry_at a.history (a.taken + 1)) ≡ k
  key = rw (made_entry a k x n.here) refl

  dead : is_live (store_of_lists a.history l.tasks l.live) k x ≡ false
  dead = subst (λ s. is_live s k x ≡ false) keeps.store n.follows.2

  pub not_live : number_with a.history l.live (key_made (entry_at a.history (a.taken + 1))) (numbered_value a.history (a.taken + 1)) ≡ None
  not_live =
      subst (λ y. number_with a.history l.live y (numbered_value a.history (a.taken + 1)) ≡ None) (sym key)
      (subst (λ y. number_with a.history l.live k y ≡ None) (sym value)
      (none_of (number_with a.history l.live k x) (found_some a.history l.live k x ∙ neither_right (is_default x) _ dead)))

  pub made_plain : is_default (numbered_value a.history (a.taken + 1)) ≡ false
  made_plain = ap is_default value ∙ neither_left (is_default x) _ dead

  pub made_above : IsBelow l.live (a.taken + 1)
  made_above = all_change (IsMade a.history a.taken) (λ d. d < a.taken + 1) l.live (λ d m. under d a.taken m.inside) keeps.made
    where
      under : (d n : ℕ) → d ≤ n → d < n + 1
      under d n h = omega (arith, h)
