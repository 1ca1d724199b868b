-- What the parts ask of a manager is what the machine asks, and so is the answer.
use Rattle.std.proofs.Common.{◌≡◌, ◌≢◌, ℕ, ◌==◌, ◌&&◌, ◌||◌, Bool, true, false, List, [], ◌∷◌, refl, sym, ap, ◌∙◌, subst, Option, Some, None}
use Rattle.std.specs.Prelude.{Result, Ok, ℤ, if◌then◌else◌}
use Rattle.vch_base.specs.declared.commands.TheConstants as commands
use Rattle.vch_base.specs.declared.key.Key.{Key}
use Rattle.vch_base.specs.declared.key.Key.TheVariants as keys
use Rattle.vch_base.specs.declared.kind.Kind.TheVariants as kinds
use Rattle.vch_base.specs.declared.value.Value.{Value}
use Rattle.vch_base.specs.Keyed.{of_key}
use Rattle.vch_base.specs.Managers as managers
use Rattle.vch_base.specs.Managers.{answer, mapped, preprocessed, received, flags_in}
use Rattle.vch_base.specs.Values.{Belongs}
use Rattle.vch_recipe.specs.Recipes.{First, One}
use Rattle.vch_recipe.specs.declared.recipe.Recipe.{Recipe}
use Rattle.vch_value.specs.Calls.{previous_handle}
use Rattle.vch_model.specs.Legal.{asks, is_managers}
use Rattle.vch_model.specs.Transfer.{received_value, flags_of}
use Rattle.vch_model.specs.Voucher.{Voucher}
use Rattle.vch_model.specs.declared.lists.Scenario.{Scenario}
use Rattle.vch_machine.specs.Making as making
use Rattle.vch_machine.specs.Making.{Asked, asked_by, asked_first, asked_transfer, asked_record, head_key}
use Rattle.vch_machine.specs.Naming.{handles_of}
use Rattle.vch_machine.specs.Next.{first_next, known_name}
use Rattle.vch_machine.specs.State as machine
use Rattle.vch_machine.specs.State.{Handles, Living, Machine, Place, tasked, living_at, value_at, member_of, valued, is_empty}
use Rattle.vch_legal.specs.Tie.{Ties}
use Rattle.vch_frame.specs.Pairs.{Optional, Pairwise}
use Rattle.vch_frame.specs.Indices.{index_of}
use Rattle.vch_values.specs.Parts.{KeyParts, rules_at}
use Rattle.vch_values.proofs.CallerLemmas.{answers_record, received_alike}
use Rattle.vch_vouchers.specs.Desks.{Named, voucher_of}
use Rattle.vch_replies.specs.Told.{handle_in, live_in}
use Rattle.vch_replies.proofs.CallerLemmas.{value_here, map_at}
use Rattle.vch_parts.specs.Plain.{Plain, Indices}
use Rattle.vch_parts.specs.Shape.{IsMap, IsName}
use Rattle.vch_parts.specs.Stands.{StandsFor}
use Rattle.vch_making.specs.declared.question.Question.{Question}
use Rattle.vch_making.specs.Asked as asked
use Rattle.vch_making.specs.Asked.{question_by, question_first, question_at, content_by, or_formed}

-- Commands of records.

not_core : (x m k r a : Bool) → (x && ((m && k) || (r && a))) ≡ true → m ≡ false → r ≡ false → ⊥
not_core true true k r a e p q = cc
not_core true false k true a e p q = cc
not_core true false k false a e p q = cc
not_core false m k r a e p q = cc

-- no record that asks a manager gives the command of a receiver
no_redeem : (version : ℕ) (names : ℕ → Option Voucher) (r : Recipe) → asks version names r ≡ true → r.command ≢ commands.AUTO_REDEEM
no_redeem version names r e q = not_core _ (is_managers r.command) _ (r.command == commands.REDEEM) _ e (ap is_managers q) (ap (λ c. c == commands.REDEEM) q)

pub asks_here : (version : ℕ) (names : List machine.Named) (r : Recipe) (rest : List ℕ) → first_next version names (One r rest) ≡ kinds.Make → asks version (known_name names) r ≡ true
asks_here version names r rest e = by (asks version (known_name names) r) e
  where
    by : (b : Bool) → (if b then kinds.Make else kinds.Work) ≡ kinds.Make → b ≡ true
    by true e = refl
    by false e = absurd (cc)

-- The answer of a key's manager by the parts.
abbrev pub answered : KeyParts → ℕ → Question → List ℕ → Result (Option Value) ℤ
answered x t q content = answer x.kept.rules t q.command (managers.previous_of x.kept.slots (previous_handle x.entries.slots q.previous)) content

module _ (sc : Scenario) (c : Plain) (m : Machine) (s : StandsFor sc c m) where
  previous_is : (k : Key) (i : Option ℕ) → managers.previous_of (of_key k c.keyed).kept.slots (previous_handle (of_key k c.keyed).entries.slots i) ≡ managers.value_of (live_in (of_key k c.keyed) (handle_in (of_key k c.keyed) i))
  previous_is k None = refl
  previous_is k (Some i) = by (handle_in (of_key k c.keyed) (Some i))
    where
      by : (o : Option ℕ) → managers.previous_of (of_key k c.keyed).kept.slots o ≡ managers.value_of (live_in (of_key k c.keyed) o)
      by None = refl
      by (Some h) = refl

  -- the value at an index of a voucher is the one at its handle
  pub previous_same : (k : Key) (u : Indices) (w : Handles) → IsMap c.keyed u w
      → managers.previous_of (of_key k c.keyed).kept.slots (previous_handle (of_key k c.keyed).entries.slots (index_of k u)) ≡ value_at m.live k (of_key k w)
  previous_same k u w map = previous_is k (index_of k u) ∙ value_here sc c m s k (index_of k u) (of_key k w) (map_at c k u w map)

  -- a name has a voucher on both sides or on none
  named : (names : List Named) (twins : List machine.Named) (n : ℕ) → Pairwise (IsName c.keyed) names twins → Optional (IsMap c.keyed) (voucher_of names n) (handles_of twins n)
  named [] [] n p = tt
  named [] (y ∷ twins) n p = absurd p
  named (x ∷ names) [] n p = absurd p
  named (x ∷ names) (y ∷ twins) n p = by (x.name == n) (y.name == n) (ap (λ k. k == n) p.0.0) (named names twins n p.1)
    where
      by : (a b : Bool) → a ≡ b → Optional (IsMap c.keyed) (voucher_of names n) (handles_of twins n)
          → Optional (IsMap c.keyed) (if a then Some x.voucher else voucher_of names n) (if b then Some y.voucher else handles_of twins n)
      by true true e r = p.0.2
      by true false e r = absurd (cc)
      by false true e r = absurd (cc)
      by false false e r = r

  pub previous_map : (names : List Named) (twins : List machine.Named) (u : Indices) (w : Handles) (n : ℕ) → Pairwise (IsName c.keyed) names twins → IsMap c.keyed u w
      → IsMap c.keyed (asked.previous_of names u n) (making.previous_of twins w n)
  previous_map names twins u w n p map = by (n == 0) (voucher_of names n) (handles_of twins n) (named names twins n p)
    where
      by : (b : Bool) (i : Option Indices) (h : Option Handles) → Optional (IsMap c.keyed) i h → IsMap c.keyed (if b then u else or_formed i u) (if b then w else making.or_map h w)
      by true i h r = map
      by false None None r = map
      by false (Some i) (Some h) r = r
      by false None (Some h) r = absurd r
      by false (Some i) None r = absurd r

  -- Of a record.

  abbrev pub Said : Question → ℕ → List ℕ → Asked
  Said q t content = record { key = q.key; reply = answered (of_key q.key c.keyed) t q content }

  -- the value that a record begins with
  abbrev begins : List Named → Indices → ℕ → Key → Option Value
  begins names u n k = managers.previous_of (of_key k c.keyed).kept.slots (previous_handle (of_key k c.keyed).entries.slots (index_of k (asked.previous_of names u n)))

  asked_at : (names : List Named) (twins : List machine.Named) (t : ℕ) (u : Indices) (w : Handles) (r : Recipe) (o : Option Key) (q : Question) → Pairwise (IsName c.keyed) names twins → IsMap c.keyed u w
      → r.command ≢ commands.AUTO_REDEEM → question_at names u r.command r.previous o ≡ Some q → asked_record m.live twins t w r o ≡ Some (Said q t r.content)
  asked_at names twins t u w r None q p map other e = absurd (cc)
  asked_at names twins t u w r (Some k) q p map other e =
      let mine : Question = record { key = k; command = r.command; previous = index_of k (asked.previous_of names u r.previous) } in
      let same : mine ≡ q = cc in
      subst (λ z. asked_record m.live twins t w r (Some k) ≡ Some (Said z t r.content)) same
      (ap (λ a. Some (record { key = k; reply = a }))
      (ap (λ v. answer (record { row = k; tasks = None }) t r.command v r.content) (sym (previous_same k _ _ (previous_map names twins u w r.previous p map)))
      ∙ sym (answers_record k sc.flags t r.command (begins names u r.previous k) r.content other)
      ∙ ap (λ rules. answer rules t r.command (begins names u r.previous k) r.content) (sym (s.keyed k).rules)))

  pub asked_create : (version : ℕ) (names : List Named) (twins : List machine.Named) (t : ℕ) (ks : List Key) (u : Indices) (w : Handles) (first : First) (q : Question) → Pairwise (IsName c.keyed) names twins → IsMap c.keyed u w
      → first_next version twins first ≡ kinds.Make → question_first version names ks u first ≡ Some q → asked_first version m.live twins t ks w first ≡ Some (Said q t (asked.content_first first))
  asked_create version names twins t ks u w (One r rest) q p map next e = asked_at names twins t u w r _ q p map (no_redeem version (known_name twins) r (asks_here version twins r rest next)) e
  asked_create version names twins t ks u w First.End q p map next e = absurd (cc)
  asked_create version names twins t ks u w (First.HeaderCut left) q p map next e = absurd (cc)
  asked_create version names twins t ks u w (First.ContentCut wanted left) q p map next e = absurd (cc)

  -- Of a send and of a recv.

  module _ (t : ℕ) (ties : Ties sc m) where
    belongs : (h : Option ℕ) (x : Value) → value_at m.live keys.Bank h ≡ Some x → Belongs keys.Bank x
    belongs None x e = absurd (cc)
    belongs (Some h) x e = by (living_at m.live (record { key = keys.Bank; handle = h })) refl e
      where
        by : (a : Option Living) → living_at m.live (record { key = keys.Bank; handle = h }) ≡ a → machine.value_of a ≡ Some x → Belongs keys.Bank x
        by None q e = absurd (cc)
        by (Some l) q e = let same : l.value ≡ x = cc in subst (Belongs keys.Bank) same (ties.fits.values (record { key = keys.Bank; handle = h }) l q).belongs

    pub sends : (u : Indices) (w : Handles) → IsMap c.keyed u w
        → Ok (mapped (preprocessed t) (value_at m.live keys.Bank w.bank)) ≡ answered c.keyed.bank t (record { key = keys.Bank; command = commands.SEND_PREPROCESS; previous = index_of keys.Bank u }) []
    sends u w map = ap (λ v. Ok (mapped (preprocessed t) v)) (sym (previous_same keys.Bank u w map))
        ∙ ap (λ rules. answer rules t commands.SEND_PREPROCESS (managers.previous_of c.keyed.bank.kept.slots (previous_handle c.keyed.bank.entries.slots (index_of keys.Bank u))) []) (sym (s.keyed keys.Bank).rules)

    pub receives_importance : (u : Indices) (w : Handles) → IsMap c.keyed u w
        → Ok (mapped (received_value sc t) (value_at m.live keys.Importance w.importance)) ≡ answered c.keyed.importance t (record { key = keys.Importance; command = commands.AUTO_REDEEM; previous = index_of keys.Importance u }) []
    receives_importance u w map = ap (λ v. Ok (mapped (received_value sc t) v)) (sym (previous_same keys.Importance u w map))
        ∙ ap (λ rules. answer rules t commands.AUTO_REDEEM (managers.previous_of c.keyed.importance.kept.slots (previous_handle c.keyed.importance.entries.slots (index_of keys.Importance u))) []) (sym (s.keyed keys.Importance).rules)

    mapped_alike : (a b : Bool) (o : Option Value) → ((x : Value) → o ≡ Some x → Belongs keys.Bank x) → mapped (received a t) o ≡ mapped (received b t) o
    mapped_alike a b None f = refl
    mapped_alike a b (Some x) f = ap Some (received_alike a b t x (f x refl))

    pub receives_bank : (u : Indices) (w : Handles) → IsMap c.keyed u w
        → Ok (mapped (received_value sc t) (value_at m.live keys.Bank w.bank)) ≡ answered c.keyed.bank t (record { key = keys.Bank; command = commands.AUTO_REDEEM; previous = index_of keys.Bank u }) []
    receives_bank u w map = ap Ok (mapped_alike (flags_of sc t).receiver (flags_in (rules_at keys.Bank sc.flags).tasks t).receiver (value_at m.live keys.Bank w.bank) (belongs w.bank))
        ∙ (ap (λ v. Ok (mapped (received (flags_in (rules_at keys.Bank sc.flags).tasks t).receiver t) v)) (sym (previous_same keys.Bank u w map))
        ∙ ap (λ rules. answer rules t commands.AUTO_REDEEM (managers.previous_of c.keyed.bank.kept.slots (previous_handle c.keyed.bank.entries.slots (index_of keys.Bank u))) []) (sym (s.keyed keys.Bank).rules))
