-- What is asked is what the call asks at its place, by the names of its task.
use Rattle.std.proofs.Common.{◌≡◌, ℕ, List, [], ◌∷◌, sym, ap, ◌∙◌, subst, drop, Some, None, Option, Ok, Result}
use Rattle.std.specs.Prelude.{if◌then◌else◌, ◌==◌, ℤ}
use Rattle.vch_base.specs.declared.key.Key.{Key}
use Rattle.vch_base.specs.declared.key.TheConstants.{ALL_KEYS}
use Rattle.vch_base.specs.declared.value.Value.{Value}
use Rattle.vch_base.specs.Keys.{key_of}
use Rattle.vch_base.specs.Keyed.{of_key}
use Rattle.vch_base.specs.Managers.{preprocessed, mapped}
use Rattle.vch_recipe.specs.Recipes.{First, One, first_of}
use Rattle.vch_recipe.specs.declared.recipe.Recipe.{Recipe}
use Rattle.vch_model.specs.declared.call.Call.{Call}
use Rattle.vch_model.specs.declared.call.Call.TheVariants as calls
use Rattle.vch_model.specs.declared.lists.Scenario.{Scenario}
use Rattle.vch_model.specs.Eval.{answer_to, previous_value}
use Rattle.vch_model.specs.Transfer.{received_value}
use Rattle.vch_machine.specs.State.{Handles, Living, Named, Frame, Machine, tasked, value_at, valued, member_of}
use Rattle.vch_machine.specs.Making.{Asked, asked_by, asked_first, asked_record, asked_transfer, keys_left, head_key, previous_of}
use Rattle.vch_legal.specs.Tie.{previous_in, AsksFirst, AsksKey, AsksAt}
use Rattle.vch_legal.proofs.forming.Records.{seen_names, previous_alike}
use Rattle.vch_legal.proofs.seen.SeenHeld.{value_at_key}

asked_eq : {a b : Asked} → Some a ≡ Some b → a ≡ b
asked_eq e = cc

record_asks : (version : ℕ) (live : List Living) (names : List Named) (t : ℕ) (v : Handles) (r : Recipe) (o : Option Key) (k : Key)
    (x : Value) → asked_record live names t v r o ≡ Some (record { key = k; reply = Ok (Some x) })
    → (o ≡ Some k)
    × (answer_to k t r.command (previous_value k (previous_in (seen_names live names) r.previous) (valued live v)) r.content
    ≡ Ok (Some x))
record_asks version live names t v r None k x e = absurd (cc)
record_asks version live names t v r (Some g) k x e =
    let s : record {
      key = g;
      reply = answer_to g t r.command (value_at live g (of_key g (previous_of names v r.previous))) r.content;
    } ≡ record { key = k; reply = Ok (Some x) } = asked_eq e in
    let same : g ≡ k = ap (λ (a : Asked). a.key) s in (
      ap Some same,
      subst (λ (h : Key). answer_to h t r.command (previous_value h (previous_in (seen_names live names) r.previous)
          (valued live v)) r.content ≡ Ok (Some x)) same
          (ap (λ y. answer_to g t r.command y r.content) (sym (previous_alike live names v r.previous g))
          ∙ ap (λ (a : Asked). a.reply) s),
    )

first_asks : (version : ℕ) (live : List Living) (names : List Named) (t : ℕ) (ks : List Key) (v : Handles) (first : First) (k : Key)
    (x : Value) → asked_first version live names t ks v first ≡ Some (record { key = k; reply = Ok (Some x) })
    → AsksFirst version (seen_names live names) t ks (valued live v) first k x
first_asks version live names t ks v (One r rest) k x e =
    record_asks version live names t v r (if r.key == ALL_KEYS then head_key (keys_left version ks) else key_of version r.key) k x e
first_asks version live names t ks v First.End k x e = absurd (cc)
first_asks version live names t ks v (First.HeaderCut left) k x e = absurd (cc)
first_asks version live names t ks v (First.ContentCut wanted left) k x e = absurd (cc)

transfer_asks : (live : List Living) (g : Value → Value) (ks : List Key) (v : Handles) (k : Key) (x : Value)
    → asked_transfer live g ks v ≡ Some (record { key = k; reply = Ok (Some x) }) → AsksKey g ks (valued live v) k x
transfer_asks live g [] v k x e = absurd (cc)
transfer_asks live g (h ∷ ks) v k x e =
    let s : record { key = h; reply = Ok (mapped g (value_at live h (of_key h v))) } ≡ record { key = k; reply = Ok (Some x) } =
    asked_eq e in
    let same : h ≡ k = ap (λ (a : Asked). a.key) s in (
      ap Some same,
      subst (λ (j : Key). mapped g (of_key j (valued live v)) ≡ Some x) same
          (ap (mapped g) (value_at_key live h v) ∙ ok_eq (ap (λ (a : Asked). a.reply) s)),
    )
  where
    ok_eq : {a b : Option Value} → ◌≡◌ {A = Result (Option Value) ℤ} (Ok a) (Ok b) → a ≡ b
    ok_eq e = cc

pub asks_at : (sc : Scenario) (t : ℕ) (m : Machine) (f : Frame) (v : Handles) (call : Call) (k : Key) (x : Value)
    → asked_by sc m t f v call ≡ Some (record { key = k; reply = Ok (Some x) })
    → AsksAt sc (member_of m.live (tasked m t)) t call f.at_byte f.keys (valued m.live v) k x
asks_at sc t m f v (calls.Create bytes) k x e =
    first_asks sc.version m.live (tasked m t).names t f.keys v (first_of (drop f.at_byte bytes)) k x e
asks_at sc t m f v (calls.Send to moving name id) k x e = transfer_asks m.live (preprocessed t) f.keys v k x e
asks_at sc t m f v calls.Recv k x e = transfer_asks m.live (received_value sc t) f.keys v k x e
asks_at sc t m f v (calls.GiveUp name) k x e = absurd (cc)
asks_at sc t m f v (calls.Extract name key) k x e = absurd (cc)
asks_at sc t m f v (calls.Recipes name) k x e = absurd (cc)
asks_at sc t m f v (calls.Extern name adding n) k x e = absurd (cc)
asks_at sc t m f v (calls.Charge name n) k x e = absurd (cc)
asks_at sc t m f v calls.Ledger k x e = absurd (cc)
asks_at sc t m f v calls.Assertions k x e = absurd (cc)
asks_at sc t m f v calls.Live k x e = absurd (cc)
asks_at sc t m f v calls.Exit k x e = absurd (cc)
