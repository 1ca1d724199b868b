-- The keys that a send or a recv begins with are those at which its voucher has a value.
use Rattle.std.proofs.Common.{◌≡◌, ℕ, List, [], ◌∷◌, ◌++◌, refl, true, sym, ap, ◌∙◌, Some, None, Option, append-nil}
use Rattle.std.specs.Prelude.{if◌then◌else◌, is_some}
use Rattle.std.specs.List.{list_any}
use Rattle.vch_base.specs.declared.key.Key.{Key}
use Rattle.vch_base.specs.declared.key.Key.TheVariants as keys
use Rattle.vch_base.specs.Keyed.{of_key}
use Rattle.vch_model.specs.declared.lists.Scenario.{Scenario}
use Rattle.vch_machine.specs.State.{Handles, Living, Named, Message, Machine, Place, tasked, living_at, value_of, value_at, valued, has_place, option_has, frame_holds}
use Rattle.vch_machine.specs.Beginning.{key_if, first_voucher}
use Rattle.vch_legal.specs.Facts.{Fits}
use Rattle.vch_legal.specs.Tie.{keys_there, sent_keys, received_keys}
use Rattle.vch_legal.proofs.facts.Choices.{or_left, or_right}
use Rattle.vch_legal.proofs.forming.Forming.{LiveAt}
use Rattle.vch_legal.proofs.values.HeldLive.{held_live, voucher_live}
use Rattle.vch_legal.proofs.seen.SeenHeld.{value_at_key}
use Rattle.vch_legal.proofs.seen.SeenNames.{LiveAll}

has_value : (live : List Living) (k : Key) (x : Option ℕ) → LiveAt live k x → is_some (value_at live k x) ≡ is_some x
has_value live k None l = refl
has_value live k (Some h) l = of_living (living_at live (record { key = k; handle = h })) l
  where
    of_living : (o : Option Living) → is_some o ≡ true → is_some (value_of o) ≡ true
    of_living None e = cc
    of_living (Some a) e = refl

one_key : (live : List Living) (v : Handles) (k : Key) (rest : List Key) → LiveAll live v
    → key_if k (of_key k v) ++ rest ≡ (if is_some (of_key k (valued live v)) then k ∷ rest else rest)
one_key live v k rest l =
    by_handle (of_key k v)
    ∙ ap (λ b. if b then k ∷ rest else rest) (sym (ap is_some (value_at_key live k v) ∙ has_value live k (of_key k v) (l k)))
  where
    by_handle : (x : Option ℕ) → key_if k x ++ rest ≡ (if is_some x then k ∷ rest else rest)
    by_handle None = refl
    by_handle (Some h) = refl

pub sends_keys : (live : List Living) (v : Handles) → LiveAll live v → key_if keys.Bank v.bank ≡ keys_there sent_keys (valued live v)
sends_keys live v l = sym (append-nil (key_if keys.Bank v.bank)) ∙ one_key live v keys.Bank [] l

pub receives_keys : (live : List Living) (v : Handles) → LiveAll live v
    → key_if keys.Importance v.importance ++ key_if keys.Bank v.bank ≡ keys_there received_keys (valued live v)
receives_keys live v l =
    ap (λ ks. key_if keys.Importance v.importance ++ ks) (sends_keys live v l)
    ∙ one_key live v keys.Importance (keys_there sent_keys (valued live v)) l

-- the voucher of the first message is live
pub first_live : (sc : Scenario) (m : Machine) (t : ℕ) (w : Handles) → Fits sc m → first_voucher (tasked m t).queue ≡ Some w
    → LiveAll m.live w
first_live sc m t w fits e =
    voucher_live m.live w (λ p h. held_live sc m t p fits
    (or_right (list_any (λ (n : Named). has_place n.voucher p) (tasked m t).names) _
    (or_left (list_any (λ (q : Message). option_has q.voucher p) (tasked m t).queue) (frame_holds (tasked m t).frame p)
    (of_queue p (tasked m t).queue e h))))
  where
    of_queue : (p : Place) (queue : List Message) → first_voucher queue ≡ Some w → has_place w p ≡ true
        → list_any (λ (q : Message). option_has q.voucher p) queue ≡ true
    of_queue p [] g h = cc
    of_queue p (q ∷ queue) g h = or_left (option_has q.voucher p) _ (ap (λ o. option_has o p) g ∙ h)
