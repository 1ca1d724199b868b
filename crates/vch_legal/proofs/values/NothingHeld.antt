-- Where no task has anything, nothing is held, and so nothing is live.
use Rattle.std.proofs.Common.{◌≡◌, ℕ, Bool, List, [], ◌∷◌, refl, true, false, ◌||◌, arith, Option, Some, None}
use Rattle.std.specs.List.{list_any, list_all}
use Rattle.vch_base.specs.declared.key.Key.{Key}
use Rattle.vch_base.specs.Keys.{key_numbered}
use Rattle.vch_base.specs.declared.value.Value.{Value}
use Rattle.vch_model.specs.Store.{Store, Member, Named, Message, Alive, is_empty, has_nothing, has_value, message_has, is_held_by, is_held}
use Rattle.vch_legal.proofs.facts.Choices.{both_ways, and_left, and_right}

none_have : (k : Key) (x : Value) (tasks : List Member) → list_all has_nothing tasks ≡ true
    → list_any (λ (m : Member). list_any (λ (n : Named). has_value k x n.voucher) m.names || list_any
    (λ (q : Message). message_has k x q.voucher) m.queue) tasks ≡ false
none_have k x [] h = refl
none_have k x (m ∷ tasks) h =
    neither _ _ _ (no_names m.names (and_left (is_empty m.names) (is_empty m.queue) (and_left (has_nothing m) _ h)))
    (no_queue m.queue (and_right (is_empty m.names) (is_empty m.queue) (and_left (has_nothing m) _ h)))
    (none_have k x tasks (and_right (has_nothing m) _ h))
  where
    neither : (a b c : Bool) → a ≡ false → b ≡ false → c ≡ false → ((a || b) || c) ≡ false
    neither a b c e g h = grind arith

    no_names : (names : List Named) → is_empty names ≡ true
        → list_any (λ (n : Named). has_value k x n.voucher) names ≡ false
    no_names [] e = refl
    no_names (n ∷ names) e = cc

    no_queue : (queue : List Message) → is_empty queue ≡ true
        → list_any (λ (q : Message). message_has k x q.voucher) queue ≡ false
    no_queue [] e = refl
    no_queue (q ∷ queue) e = cc

-- where no task has a name or a message, nothing is held
unheld : (s : Store) (n : ℕ) (x : Value) → list_all has_nothing s.tasks ≡ true → is_held s n x ≡ false
unheld s n x h = by_key (key_numbered n)
  where
    by_key : (o : Option Key) → is_held_by s o x ≡ false
    by_key None = refl
    by_key (Some k) = none_have k x s.tasks h

-- where nothing is held, and what is live is held, nothing is live
pub none_live : (s : Store) (live : List Alive) → list_all has_nothing s.tasks ≡ true
    → list_all (λ (l : Alive). is_held s l.key l.value) live ≡ true → live ≡ []
none_live s [] h e = refl
none_live s (l ∷ live) h e = absurd (both_ways (and_left (is_held s l.key l.value) _ e) (unheld s l.key l.value h))
