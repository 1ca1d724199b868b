-- A voucher that is changed at some keys, by indices and by handles: both agree key by key.
use Rattle.std.proofs.Common.{◌≡◌, ℕ, false, cond, List, [], ◌∷◌, ◌++◌, sym, ap, ◌∙◌, subst, Option, Some, None, inl, inr}
use Rattle.vch_base.specs.declared.key.Key.{Key}
use Rattle.vch_base.specs.Keys.{same_key}
use Rattle.vch_base.specs.Keyed.{Keyed, of_key}
use Rattle.vch_machine.specs.Naming.{item}
use Rattle.vch_machine.specs.State.{Handles}
use Rattle.vch_machine.specs.Working.{WorkDone, changed, changed_each}
use Rattle.vch_frame.specs.Pairs.{Optional, Pairwise}
use Rattle.vch_frame.specs.Indices.{index_of}
use Rattle.vch_frame.specs.Releases.{let_at}
use Rattle.vch_frame.proofs.CallerLemmas.{same_key_refl}
use Rattle.vch_values.specs.Parts.{KeyParts}
use Rattle.vch_parts.specs.Plain.{Indices}
use Rattle.vch_parts.specs.Shape.{IsIndexOf, IsMap, IsLet}
use Rattle.vch_values.proofs.CallerLemmas.{key_cases}
use Rattle.vch_parts.proofs.CallerLemmas.{other_with, turned, at_key, map_with}
use Rattle.vch_moves.specs.Shares.{SharesAt}
use Rattle.vch_moves.specs.Works.{Workspace, Changes, ChangesEach, Becomes, NotIn, KeysDiffer}
use Rattle.vch_moves.proofs.holding.Items.{pairwise_append, item_lets}
use Rattle.vch_moves.proofs.working.Given.{flat, given}

module _ (x : Keyed KeyParts) where
  -- the map, and what leaves it, are the machine's
  pub record Related (f : Workspace) (w : WorkDone) : Type 0 where
    pub map : IsMap x f.map w.forming
    pub lets : Pairwise (IsLet x) f.lets w.left

  pub related_step : (k : Key) (f g : Workspace) (w : WorkDone) (a b : Option (Option ℕ)) → Becomes x k a b → Changes f k a g → Related f w → Related g (changed k b w)
  related_step k f g w None None p e r = subst (λ z. Related z w) (sym e) r
  related_step k f g w None (Some h) p e r = absurd p
  related_step k f g w (Some i) None p e r = absurd p
  related_step k f g w (Some i) (Some h) p e r = record {
    map = map_with x k f.map g.map w.forming i h e.bounded e.map p r.map;
    lets = subst (λ ls. Pairwise (IsLet x) ls (w.left ++ item k (of_key k w.forming))) (sym e.lets)
        (pairwise_append (IsLet x) f.lets w.left (let_at k (index_of k f.map)) (item k (of_key k w.forming)) r.lets (item_lets x k (index_of k f.map) (of_key k w.forming) (at_key x k f.map w.forming r.map)));
  }

  -- a key that is still to be changed has what it had at first
  abbrev pub Untouched : Handles → List Key → Handles → Type 0
  Untouched first [] v = Unit {0}
  Untouched first (k ∷ ks) v = (of_key k v ≡ of_key k first) × Untouched first ks v

  untouched_step : (first : Handles) (k : Key) (o : Option (Option ℕ)) (w : WorkDone) (ks : List Key) → NotIn k ks → Untouched first ks w.forming → Untouched first ks (changed k o w).forming
  untouched_step first k None w ks n u = u
  untouched_step first k (Some i) w [] n u = tt
  untouched_step first k (Some i) w (q ∷ ks) n u = (other_with q k i w.forming (turned q k n.0) ∙ u.0, untouched_step first k (Some i) w ks n.1 u.1)

  module _ (becomes : Indices → Key → Option (Option ℕ)) (e : Key → Option (Option ℕ)) (first : Handles)
      (agrees : (k : Key) (v : Indices) (w : Handles) → IsMap x v w → of_key k w ≡ of_key k first → Becomes x k (becomes v k) (e k)) where
    pub related_each : (ks : List Key) → KeysDiffer ks → (f g : Workspace) (w : WorkDone) → Untouched first ks w.forming → ChangesEach becomes ks f g → Related f w → Related g (changed_each e ks w)
    related_each [] d f g w u c r = subst (λ z. Related z w) (sym c) r
    related_each (k ∷ ks) d f g w u c r =
        let now : Becomes x k (becomes f.map k) (e k) = agrees k f.map w.forming r.map u.0 in
        related_each ks d.1 c.0 g (changed k (e k) w) (untouched_step first k (e k) w ks d.0 u.1) c.2 (related_step k f c.0 w (becomes f.map k) (e k) now c.1 r)

    -- the entries of a key that is not changed stay
    other_change : (q k : Key) (f g : Workspace) (o : Option (Option ℕ)) → same_key k q ≡ false → Changes f k o g → of_key q g.keyed ≡ of_key q f.keyed
    other_change q k f g None other c = ap (λ (z : Workspace). of_key q z.keyed) c
    other_change q k f g (Some i) other c = c.others q other

    others_stay : (q : Key) (ks : List Key) → NotIn q ks → (f g : Workspace) → ChangesEach becomes ks f g → of_key q g.keyed ≡ of_key q f.keyed
    others_stay q [] n f g c = ap (λ (z : Workspace). of_key q z.keyed) c
    others_stay q (k ∷ ks) n f g c = others_stay q ks n.1 c.0 g c.2 ∙ other_change q k f c.0 (becomes f.map k) n.0 c.1

    -- at a key, the entry of the index that it is given has one reference more
    pub record Given (q : Key) (o : Option ℕ) (old new : KeyParts) : Type 0 where
      pub index : Option ℕ
      pub shares : SharesAt old index new
      pub handle : Optional (IsIndexOf x q) index o

    change_shares : (k : Key) (f g : Workspace) (a b : Option (Option ℕ)) → Becomes x k a b → Changes f k a g → Given k (flat b) (of_key k f.keyed) (of_key k g.keyed)
    change_shares k f g None None p c = record { index = None; shares = ap (λ (z : Workspace). of_key k z.keyed) c; handle = tt }
    change_shares k f g (Some i) (Some h) p c = record { index = i; shares = c.shares; handle = p }
    change_shares k f g None (Some h) p c = absurd p
    change_shares k f g (Some i) None p c = absurd p

    pub shared_each_key : (q : Key) (ks : List Key) → KeysDiffer ks → (f g : Workspace) (w : WorkDone) → Untouched first ks w.forming → ChangesEach becomes ks f g → Related f w → Given q (given ks e q) (of_key q f.keyed) (of_key q g.keyed)
    shared_each_key q [] d f g w u c r = record { index = None; shares = ap (λ (z : Workspace). of_key q z.keyed) c; handle = tt }
    shared_each_key q (k ∷ ks) d f g w u c r = elim (key_cases k q) [ inl same ↦ here same | inr other ↦ there other (shared_each_key q ks d.1 c.0 g (changed k (e k) w) (untouched_step first k (e k) w ks d.0 u.1) c.2 next) ]
      where
        now : Becomes x k (becomes f.map k) (e k)
        now = agrees k f.map w.forming r.map u.0

        next : Related c.0 (changed k (e k) w)
        next = related_step k f c.0 w (becomes f.map k) (e k) now c.1 r

        here : k ≡ q → Given q (given (k ∷ ks) e q) (of_key q f.keyed) (of_key q g.keyed)
        here same = subst (λ j. Given j (given (k ∷ ks) e j) (of_key j f.keyed) (of_key j g.keyed)) same
            (subst (λ b. Given k (cond b (flat (e k)) (given ks e k)) (of_key k f.keyed) (of_key k g.keyed)) (sym (same_key_refl k))
            (subst (λ z. Given k (flat (e k)) (of_key k f.keyed) z) (sym (others_stay k ks d.0 c.0 g c.2)) (change_shares k f c.0 (becomes f.map k) (e k) now c.1)))

        there : same_key k q ≡ false → Given q (given ks e q) (of_key q c.0.keyed) (of_key q g.keyed) → Given q (given (k ∷ ks) e q) (of_key q f.keyed) (of_key q g.keyed)
        there other z = subst (λ b. Given q (cond b (flat (e k)) (given ks e q)) (of_key q f.keyed) (of_key q g.keyed)) (sym other)
            (subst (λ a. Given q (given ks e q) a (of_key q g.keyed)) (other_change q k f c.0 (becomes f.map k) other c.1) z)
