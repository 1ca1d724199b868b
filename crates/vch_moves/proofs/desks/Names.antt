-- Names by indices and by handles: look-ups agree, and so do the names after each change.
use Rattle.std.proofs.Common.{◌≡◌, ℕ, ◌+◌, ◌-◌, ◌==◌, nat_lt, Bool, true, false, cond, List, [], ◌∷◌, refl, sym, ap, ◌∙◌, subst, Option, Some, None}
use Rattle.vch_base.specs.Keyed.{Keyed}
use Rattle.vch_machine.specs.Naming as naming
use Rattle.vch_machine.specs.Naming.{handles_of, name_of, with_name}
use Rattle.vch_machine.specs.State as machine
use Rattle.vch_machine.specs.State.{Handles, Tasked}
use Rattle.vch_frame.specs.Pairs.{Optional, Pairwise}
use Rattle.vch_values.specs.Parts.{KeyParts}
use Rattle.vch_vouchers.specs.Desks as desks
use Rattle.vch_vouchers.specs.Desks.{Named, voucher_of, name_with, one_more, one_less, without_name, lowest}
use Rattle.vch_parts.specs.Plain.{Indices, Part}
use Rattle.vch_parts.specs.Shape.{IsMap, IsName, IsTask}
use Rattle.vch_moves.specs.Desks.{desk_of, with_desk, given, name_of_given, AllApart}
use Rattle.vch_moves.proofs.desks.Equal.{Tests, tests}
use Rattle.vch_moves.proofs.holding.Items.{pairwise_append}

module _ (x : Keyed KeyParts) where
  abbrev AreNames : List Named → List machine.Named → Type 0
  AreNames ns os = Pairwise (IsName x) ns os

  pub voucher_is : (ns : List Named) (os : List machine.Named) (name : ℕ) → AreNames ns os → Optional (IsMap x) (voucher_of ns name) (handles_of os name)
  voucher_is [] [] name p = tt
  voucher_is [] (o ∷ os) name p = absurd p
  voucher_is (n ∷ ns) [] name p = absurd p
  voucher_is (n ∷ ns) (o ∷ os) name p = rw p.0.0 (by (o.name == name) (voucher_is ns os name p.1))
    where
      by : (b : Bool) → Optional (IsMap x) (voucher_of ns name) (handles_of os name) → Optional (IsMap x) (cond b (Some n.voucher) (voucher_of ns name)) (cond b (Some o.voucher) (handles_of os name))
      by true e = p.0.2
      by false e = e

  pub name_is : (u : Indices) (w : Handles) → Tests x u w → (ns : List Named) (os : List machine.Named) → AreNames ns os → name_with ns u ≡ name_of os w
  name_is u w t [] [] p = refl
  name_is u w t [] (o ∷ os) p = absurd p
  name_is u w t (n ∷ ns) [] p = absurd p
  name_is u w t (n ∷ ns) (o ∷ os) p = let a = t n.voucher o.voucher p.0.2 in let b = name_is u w t ns os p.1 in rw (a, b, p.0.0) refl

  pub names_more : (ns : List Named) (os : List machine.Named) (name : ℕ) → AreNames ns os → AreNames (one_more ns name) (naming.one_more os name)
  names_more [] [] name p = tt
  names_more [] (o ∷ os) name p = absurd p
  names_more (n ∷ ns) [] name p = absurd p
  names_more (n ∷ ns) (o ∷ os) name p = subst (λ i. AreNames (cond (i == name) (record n { refs = n.refs + 1 } ∷ ns) (n ∷ one_more ns name)) (naming.one_more (o ∷ os) name)) (sym p.0.0) (by (o.name == name) (names_more ns os name p.1))
    where
      by : (b : Bool) → AreNames (one_more ns name) (naming.one_more os name) → AreNames (cond b (record n { refs = n.refs + 1 } ∷ ns) (n ∷ one_more ns name)) (cond b (record o { refs = o.refs + 1 } ∷ os) (o ∷ naming.one_more os name))
      by true e = ((p.0.0, ap (λ i. i + 1) p.0.1, p.0.2), p.1)
      by false e = (p.0, e)

  pub names_less : (ns : List Named) (os : List machine.Named) (name : ℕ) → AreNames ns os → AreNames (one_less ns name) (naming.one_less os name)
  names_less [] [] name p = tt
  names_less [] (o ∷ os) name p = absurd p
  names_less (n ∷ ns) [] name p = absurd p
  names_less (n ∷ ns) (o ∷ os) name p =
      subst (λ i. AreNames (cond (i == name) (cond (nat_lt 1 n.refs) (record n { refs = n.refs - 1 } ∷ ns) ns) (n ∷ one_less ns name)) (naming.one_less (o ∷ os) name)) (sym p.0.0)
      (subst (λ i. AreNames (cond (o.name == name) (cond (nat_lt 1 i) (record n { refs = n.refs - 1 } ∷ ns) ns) (n ∷ one_less ns name)) (naming.one_less (o ∷ os) name)) (sym p.0.1)
      (by (o.name == name) (nat_lt 1 o.refs) (names_less ns os name p.1)))
    where
      by : (b l : Bool) → AreNames (one_less ns name) (naming.one_less os name)
          → AreNames (cond b (cond l (record n { refs = n.refs - 1 } ∷ ns) ns) (n ∷ one_less ns name)) (cond b (cond l (record o { refs = o.refs - 1 } ∷ os) os) (o ∷ naming.one_less os name))
      by true true e = ((p.0.0, ap (λ i. i - 1) p.0.1, p.0.2), p.1)
      by true false e = p.1
      by false l e = (p.0, e)

  pub names_without : (ns : List Named) (os : List machine.Named) (name : ℕ) → AreNames ns os → AreNames (without_name ns name) (naming.without_name os name)
  names_without [] [] name p = tt
  names_without [] (o ∷ os) name p = absurd p
  names_without (n ∷ ns) [] name p = absurd p
  names_without (n ∷ ns) (o ∷ os) name p = subst (λ i. AreNames (cond (i == name) ns (n ∷ without_name ns name)) (naming.without_name (o ∷ os) name)) (sym p.0.0) (by (o.name == name) (names_without ns os name p.1))
    where
      by : (b : Bool) → AreNames (without_name ns name) (naming.without_name os name) → AreNames (cond b ns (n ∷ without_name ns name)) (cond b os (o ∷ naming.without_name os name))
      by true e = p.1
      by false e = (p.0, e)

  pub lowest_is : (ns : List Named) (os : List machine.Named) → AreNames ns os → lowest ns ≡ naming.lowest os
  lowest_is [] [] p = refl
  lowest_is [] (o ∷ os) p = absurd p
  lowest_is (n ∷ ns) [] p = absurd p
  lowest_is (n ∷ ns) (o ∷ os) p = let e : lowest ns ≡ naming.lowest os = lowest_is ns os p.1 in rw (p.0.0, e) refl

  -- a voucher is given to a task: it gets the same name
  given_by : (u : Indices) (w : Handles) (a : Part) (y : Tasked) (o : Option ℕ) → IsMap x u w → IsTask x a y → IsTask x (with_desk a (desks.given_to (desk_of a) u o)) (with_name y w o)
  given_by u w a y None map p = record {
    names = pairwise_append (IsName x) a.names y.names (record { name = a.next; voucher = u; refs = 1 } ∷ []) (record { name = y.next; voucher = w; refs = 1 } ∷ []) p.names ((p.next, refl, map), tt);
    next = ap (λ i. i + 1) p.next;
    queue = p.queue;
    begun = p.begun;
    frame = p.frame;
  }
  given_by u w a y (Some name) map p = record { names = names_more a.names y.names name p.names; next = p.next; queue = p.queue; begun = p.begun; frame = p.frame }

  pub given_is : (u : Indices) (w : Handles) (a : Part) (y : Tasked) → AllApart x → IsMap x u w → IsTask x a y → IsTask x (given a u) (with_name y w (name_of y.names w))
  given_is u w a y apart map p = subst (λ o. IsTask x (with_desk a (desks.given_to (desk_of a) u o)) (with_name y w (name_of y.names w))) (sym (name_is u w (tests x apart u w map) a.names y.names p.names)) (given_by u w a y (name_of y.names w) map p)

  pub answer_is : (u : Indices) (w : Handles) (a : Part) (y : Tasked) → AllApart x → IsMap x u w → IsTask x a y → name_of_given a u ≡ naming.name_for y (name_of y.names w)
  answer_is u w a y apart map p = ap (desks.name_for (desk_of a)) (name_is u w (tests x apart u w map) a.names y.names p.names) ∙ by (name_of y.names w)
    where
      by : (o : Option ℕ) → desks.name_for (desk_of a) o ≡ naming.name_for y o
      by None = p.next
      by (Some name) = refl

  -- and its queue is as long as before
  pub given_limit : (u : Indices) (a : Part) → (given a u).limit ≡ a.limit
  given_limit u a = by (name_with a.names u)
    where
      by : (o : Option ℕ) → (desks.given_to (desk_of a) u o).limit ≡ a.limit
      by None = refl
      by (Some name) = refl
