-- A live value of a manager, in the state and in the store of its history.
use Rattle.std.proofs.Common.{◌≡◌, ℕ, nat_lt, true, false, refl, sym, ap, ◌∙◌, subst, Option, Some, None}
use Rattle.vch_base.specs.declared.key.Key.{Key}
use Rattle.vch_base.specs.declared.places.Live.{Live}
use Rattle.vch_base.specs.Keyed.{of_key}
use Rattle.vch_base.specs.Managers.{live_at}
use Rattle.vch_base.specs.Values.{is_default, Belongs}
use Rattle.vch_model.specs.declared.lists.Scenario.{Scenario}
use Rattle.vch_model.specs.After.{store_of}
use Rattle.vch_model.specs.Totals.{with_made}
use Rattle.vch_machine.specs.State.{Place, Living, Machine, living_at}
use Rattle.vch_legal.specs.Tie.{Ties}
use Rattle.vch_legal.proofs.CallerLemmas.{plain_numbered}
use Rattle.vch_frame.specs.Living.{IsLiving}
use Rattle.vch_values.specs.Parts.{number_at}
use Rattle.vch_parts.specs.Plain.{Plain}
use Rattle.vch_parts.specs.Stands.{StandsFor}
use Rattle.vch_parts.proofs.asks.Ledger.{value_made}

-- the machine's value beside a live one of the manager
living_of : (n : ℕ) (o : Option Live) (l : Live) (a : Option Living) (P : Type 0) → o ≡ Some l → IsLiving n o a → ((x : Living) → a ≡ Some x → l.value ≡ x.value → n ≡ x.made → P) → P
living_of n None l a P e s f = absurd (cc)
living_of n (Some z) l None P e s f = absurd s
living_of n (Some z) l (Some x) P e s f = let q : z ≡ l = cc in f x refl (ap (λ (u : Live). u.value) (sym q) ∙ s.0) s.1

abbrev pub at_place : Key → ℕ → Place
at_place k h = record { key = k; handle = h }

module _ (sc : Scenario) (c : Plain) (m : Machine) (k : Key) (h : ℕ) (l : Live) (s : StandsFor sc c m) (alive : live_at (of_key k c.keyed).kept.slots h ≡ Some l) where
  abbrev number : ℕ
  number = number_at (of_key k c.keyed).numbers h

  pub found : (P : Type 0) → ((a : Living) → living_at m.live (at_place k h) ≡ Some a → l.value ≡ a.value → number ≡ a.made → P) → P
  found P q = living_of number (live_at (of_key k c.keyed).kept.slots h) l (living_at m.live (at_place k h)) P alive ((s.keyed k).living h) q

  module _ (ties : Ties sc m) where
    pub value_belongs : Belongs k l.value
    value_belongs = found _ (λ a e v n. subst (Belongs k) (sym v) (ties.fits.values (at_place k h) a e).belongs)

    pub in_store : is_default l.value ≡ false → with_made (store_of sc m.past).live number ≡ Some l.value
    in_store plain = found _ (λ a e v n.
        let pos : nat_lt 0 a.made ≡ true = plain_numbered sc m (at_place k h) a ties.fits e (subst (λ z. is_default z ≡ false) v plain) in
        subst (λ z. with_made (store_of sc m.past).live z ≡ Some l.value) (sym n) (value_made sc m (at_place k h) a ties e pos ∙ ap Some (sym v)))
