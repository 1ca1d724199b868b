-- Each step on a word keeps the rule.
use Rattle.std.proofs.Common.{◌≡◌, ◌≢◌, ⊎_elim, ℕ, ◌+◌, ◌%◌, ◌^◌, ◌<◌, ◌≤◌, Bool, true, false, eqb, List, get_or, set, sum_by, length, sym, refl, ap, ◌∙◌, subst, arith, length-set, get_or-set_same, get_or-set_other, eq-eqb, ne_eqb, lt_of_not-le}
use Rattle.std.proofs.lemmas.List.{set-get_or, get_or_past}
use Rattle.std.proofs.lemmas.List.Sums.{sum_by-set}
use mathlib.Core.Logic.{dite}
use mathlib.Core.Option.{none, some}
use native.Mathlib.Decide.{dec_le, ℕ_discrete}
use lib.ListN.{get_elem?}
use prog.Atomic.{either}
use Rattle.atomic_table.specs.Table.{State, Me, step, keeps, Allows}
use Rattle.atomic_table.proofs.Lists.{at_set, set_again}
use Rattle.vch_made.specs.Seats.{released_mark}
use Rattle.vch_made.specs.Counting.{bit, counts_of, knows, freed_by, tries_of, share_of, OutOfUse, IsSlotWord, IsFair, CountsKept, CountRule}
use Rattle.vch_made.specs.Plays.{after_step, after_made, after_dead, after_released, make_plays, release_plays, offer_plays, IsSound, look_plays}
use Rattle.vch_made.specs.Fits.{IsWide}
use Rattle.vch_made.specs.declared.view.View.{View}
use Rattle.vch_made.specs.declared.view.Terms.{Terms}
use Rattle.vch_made.proofs.Sums.{sum-set, sum-at, sum-below, sum-beside, at-le-sum, bit_none, bit_one}

abbrev M : Type 0
M = Me (Unit {0}) View

abbrev St : Type 0
St = State (Unit {0}) View

-- nothing that the rule reads of a slot differs
pub record Same (slot : ℕ) (v w : View) : Type 0 where
  pub counts : counts_of slot w ≡ counts_of slot v
  pub known : knows slot w ≡ knows slot v
  pub let_go_by : freed_by slot w ≡ freed_by slot v

module _ {terms : Terms} {words : List ℕ} {views : List View} (h : CountsKept terms words views) where
  pub counts_few : (slot : ℕ) → sum_by (counts_of slot) views ≤ sum_by tries_of views
  counts_few slot = sum-below (counts_of slot) tries_of views (λ id v at. let f = (h.fair id v at).made in let a = at-le-sum v.own slot in omega arith)

  pub tries_few : sum_by tries_of views ≤ terms.makes
  tries_few = let a = sum-below tries_of share_of views (λ id v at. omega arith) in let b = h.most in omega arith

  -- where a seat has all the room and all the tries, nobody else has a count or released a slot
  pub counts_alone : (slot id : ℕ) (v : View) → get_elem? views id ≡ some v → share_of v ≡ terms.makes → sum_by (counts_of slot) views ≤ counts_of slot v
  counts_alone slot id v at all =
      let a = sum-beside (counts_of slot) share_of views (λ i u e. let f = (h.fair i u e).made in
      let b = at-le-sum u.own slot in omega arith) id v at in
      let m = h.most in omega arith

  pub freed_alone : (slot id : ℕ) (v : View) → get_elem? views id ≡ some v → share_of v ≡ terms.makes → sum_by (freed_by slot) views ≤ freed_by slot v
  freed_alone slot id v at all =
      let a = sum-beside (freed_by slot) share_of views (λ i u e. let f = (h.fair i u e).freed slot in omega arith) id v at in
      let m = h.most in omega arith

-- a slot of which nothing differs stands as before
carries : (views : List View) (id : ℕ) (v w : View) (slot word : ℕ) → get_elem? views id ≡ some v → Same slot v w → tries_of v ≤ tries_of w → IsSlotWord views slot word → IsSlotWord (set views id w) slot word
carries views id v w slot word at same more stands =
    let c = sum-set (counts_of slot) views id v w at in
    let k = sum-set (knows slot) views id v w at in
    let f = sum-set (freed_by slot) views id v w at in
    let t = sum-set tries_of views id v w at in
    let sc = same.counts in let sk = same.known in let sf = same.let_go_by in
    record {
      below = λ lt. let u = stands.below lt in let u1 = u.counted in let u2 = u.unknown in let u3 = u.unfreed in record { counted = omega arith; unknown = omega arith; unfreed = omega arith };
      above = λ le. let g = stands.above le in let g1 = g.counted in let g2 = g.tried in let g3 = g.freed in record { counted = omega arith; tried = omega arith; freed = omega arith };
    }

fair_set : (views : List View) (id : ℕ) (w : View) → ((i : ℕ) (u : View) → get_elem? views i ≡ some u → IsFair u) → IsFair w → (i : ℕ) (u : View) → get_elem? (set views id w) i ≡ some u → IsFair u
fair_set views id w all mine i u e = ⊎_elim (λ (t : (i ≡ id) × (w ≡ u)). subst IsFair t.1 mine) (λ (t : (i ≢ id) × (get_elem? views i ≡ some u)). all i u t.1) (at_set views id i w u e)

-- a word and a view change, and of the other slots nothing
pub placed : (terms : Terms) (words : List ℕ) (views : List View) → CountsKept terms words views → (id : ℕ) (v w : View) → get_elem? views id ≡ some v → (slot n : ℕ) → slot < terms.slots
    → ((j : ℕ) → j ≢ slot → Same j v w) → tries_of v ≤ tries_of w → share_of w ≡ share_of v → IsFair w → IsSlotWord (set views id w) slot n → CountsKept terms (set words slot n) (set views id w)
placed terms words views h id v w at slot n is_slot others more share fair here = record {
  size = length-set words slot n ∙ h.size;
  slots = λ j inside. dite (ℕ_discrete j slot)
      (λ e. subst (λ (x : ℕ). IsSlotWord (set views id w) x (get_or (set words slot n) x 0)) (sym e) (subst (IsSlotWord (set views id w) slot) (sym (get_or-set_same words slot n 0 (let z = h.size in omega arith))) here))
      (λ ne. subst (IsSlotWord (set views id w) j) (sym (get_or-set_other words slot j n 0 ne)) (carries views id v w j (get_or words j 0) at (others j ne) more (h.slots j inside)));
  fair = fair_set views id w h.fair fair;
  most = let s = sum-set share_of views id v w at in let m = h.most in omega arith;
  bound = h.bound;
}

-- a word is only looked at, and of no slot anything changes
pub looked_at : (terms : Terms) (words : List ℕ) (views : List View) → CountsKept terms words views → (id : ℕ) (v w : View) → get_elem? views id ≡ some v → (slot : ℕ) → slot < terms.slots
    → ((j : ℕ) → Same j v w) → tries_of w ≡ tries_of v → share_of w ≡ share_of v → IsFair w → CountsKept terms (set words slot (get_or words slot 0)) (set views id w)
looked_at terms words views h id v w at slot is_slot same tries share fair =
    placed terms words views h id v w at slot (get_or words slot 0) is_slot (λ j _. same j) (omega arith) share fair (carries views id v w slot (get_or words slot 0) at (same slot) (omega arith) (h.slots slot is_slot))

unchanged : (j : ℕ) (v w : View) → w.own ≡ v.own → w.dead ≡ v.dead → w.freed ≡ v.freed → Same j v w
unchanged j v w o d f = record { counts = ap (λ (l : List ℕ). get_or l j 0) o; known = ap (λ (l : List Bool). bit (get_or l j false)) d; let_go_by = ap (λ (l : List Bool). bit (get_or l j false)) f }

module _ (terms : Terms) (slots id : ℕ) (me : M) (slot : ℕ) (wide : IsWide me.0) (inside : slot < length me.0.own) (is_slot : slot < terms.slots) where
  abbrev v : View
  v = me.0

  -- a make of a slot in use
  counts_one : (s : St) → CountsKept terms s.words s.views → get_elem? s.views id ≡ some v → 1 ≤ v.room → get_or s.words slot 0 < released_mark
      → CountsKept terms (set s.words slot (get_or s.words slot 0 + 1)) (set s.views id (after_made v slot (get_or s.words slot 0)))
  counts_one s h at has below =
      let n : ℕ = get_or s.words slot 0 in
      let w : View = after_made v slot n in
      let u = (h.slots slot is_slot).below below in
      let new : counts_of slot w ≡ counts_of slot v + 1 = get_or-set_same v.own slot (counts_of slot v + 1) 0 inside in
      let c = sum-set (counts_of slot) s.views id v w at in
      let k = sum-set (knows slot) s.views id v w at in
      let f = sum-set (freed_by slot) s.views id v w at in
      let few = counts_few h slot in
      let fewer = tries_few h in
      let b = h.bound in
      let u1 = u.counted in
      let u2 = u.unknown in
      let u3 = u.unfreed in
      let fair = h.fair id v at in
      let m = fair.made in
      let total = sum_by-set (λ (x : ℕ). x) v.own slot (counts_of slot v + 1) 0 inside in
      placed terms s.words s.views h id v w at slot (n + 1) is_slot
      (λ j ne. record { counts = get_or-set_other v.own slot j (counts_of slot v + 1) 0 ne; known = refl; let_go_by = refl })
      (omega arith)
      (omega arith)
      (record { made = omega arith; freed = λ j. let fj = fair.freed j in omega arith })
      (record { below = λ _. record { counted = omega arith; unknown = omega arith; unfreed = omega arith }; above = λ le. absurd (omega arith) })

  -- a make of a released slot
  counts_none : (s : St) → CountsKept terms s.words s.views → get_elem? s.views id ≡ some v → 1 ≤ v.room → released_mark ≤ get_or s.words slot 0
      → CountsKept terms (set s.words slot (get_or s.words slot 0 + 1)) (set s.views id (after_dead v slot (get_or s.words slot 0)))
  counts_none s h at has above =
      let n : ℕ = get_or s.words slot 0 in
      let w : View = after_dead v slot n in
      let g = (h.slots slot is_slot).above above in
      let c = sum-set (counts_of slot) s.views id v w at in
      let f = sum-set (freed_by slot) s.views id v w at in
      let t = sum-set tries_of s.views id v w at in
      let g1 = g.counted in let g2 = g.tried in let g3 = g.freed in let fair = h.fair id v at in let m = fair.made in
      placed terms s.words s.views h id v w at slot (n + 1) is_slot
      (λ j ne. record { counts = refl; known = ap bit (get_or-set_other v.dead slot j true false ne); let_go_by = refl })
      (omega arith)
      (omega arith)
      (record { made = omega arith; freed = λ j. let fj = fair.freed j in omega arith })
      (record { below = λ lt. absurd (omega arith); above = λ _. record { counted = omega arith; tried = omega arith; freed = omega arith } })

  pub make_keeps : 1 ≤ v.room → Allows (CountRule terms) slots id me slot (λ n. (n + 1) % 2 ^ 64) (make_plays (step slots slot 1 0 none) me)
  make_keeps has s h _ at small =
      let n : ℕ = get_or s.words slot 0 in
      let met = λ (w : View) (e : w.met ≡ set v.met slot n). ap (λ (l : List ℕ). get_or l slot 0) e ∙ get_or-set_same v.met slot n 0 (let z = wide.met_wide in
      omega arith) in
      let few = counts_few h slot in let fewer = tries_few h in let b = h.bound in dite (dec_le released_mark n)
      (λ above. let g2 = ((h.slots slot is_slot).above above).tried in let turn : n + 1 ≡ (n + 1) % 18446744073709551616 = omega arith in (
        after_dead v slot n,
        keeps,
        tt,
        subst (λ (x : ℕ). CountsKept terms (set s.words slot x) (set s.views id (after_dead v slot n))) turn (counts_none s h at has above),
        (refl, record { met = met (after_dead v slot n) refl; made = λ lt. absurd (omega arith); dead = λ _. refl }),
      ))
      (λ not. let below : n < released_mark = lt_of_not-le not in let u = (h.slots slot is_slot).below below in let u1 = u.counted in let u2 = u.unknown in let turn : n + 1 ≡ (n + 1) % 18446744073709551616 = omega arith in
      let mine = sum-at (counts_of slot) s.views id v at in let k = sum-at (knows slot) s.views id v at in (
        after_made v slot n,
        keeps,
        tt,
        subst (λ (x : ℕ). CountsKept terms (set s.words slot x) (set s.views id (after_made v slot n))) turn (counts_one s h at has below),
        (refl, record { met = met (after_made v slot n) refl; made = λ _. (refl, omega arith, bit_none (get_or v.dead slot false) (omega arith)); dead = λ le. absurd (not le) }),
      ))

  -- a release that meets the seat's own count
  lets_go : (s : St) → CountsKept terms s.words s.views → get_elem? s.views id ≡ some v → 1 ≤ counts_of slot v → get_or s.words slot 0 ≡ counts_of slot v
      → CountsKept terms (set s.words slot released_mark) (set s.views id (after_released v slot (get_or s.words slot 0)))
  lets_go s h at held hit = let n : ℕ = get_or s.words slot 0 in let w : View = after_released v slot n in let few = tries_few h in let fair = h.fair id v at in let m = fair.made in let own = at-le-sum v.own slot in let b = h.bound in
      let t = sum-at tries_of s.views id v at in
      let below : n < released_mark = omega arith in
      let u = (h.slots slot is_slot).below below in
      let u1 = u.counted in
      let u3 = u.unfreed in
      let none_left : counts_of slot w ≡ 0 = get_or-set_same v.own slot 0 0 inside in
      let freed_here : freed_by slot w ≡ 1 = ap bit (get_or-set_same v.freed slot true false (let z = wide.freed_wide in omega arith)) in
      let c = sum-set (counts_of slot) s.views id v w at in
      let f = sum-set (freed_by slot) s.views id v w at in
      let f0 = sum-at (freed_by slot) s.views id v at in
      let total = sum_by-set (λ (x : ℕ). x) v.own slot 0 0 inside in
      placed terms s.words s.views h id v w at slot released_mark is_slot
      (λ j ne. record { counts = get_or-set_other v.own slot j 0 0 ne; known = ap bit (get_or-set_other v.dead slot j true false ne); let_go_by = ap bit (get_or-set_other v.freed slot j true false ne) })
      (omega arith)
      refl
      (record { made = omega arith; freed = λ j. let z = bit-le-one (get_or w.freed j false) in omega arith })
      (record { below = λ lt. absurd (omega arith); above = λ _. record { counted = omega arith; tried = omega arith; freed = omega arith } })
    where
      bit-le-one : (b : Bool) → bit b ≤ 1
      bit-le-one true = omega arith
      bit-le-one false = omega arith

  -- a seat with all the room and all the tries meets its own count
  meets_own : (s : St) → CountsKept terms s.words s.views → get_elem? s.views id ≡ some v → 1 ≤ counts_of slot v → v.room + v.tries ≡ terms.makes → get_or s.words slot 0 ≡ counts_of slot v
  meets_own s h at held all =
      let n : ℕ = get_or s.words slot 0 in
      let alone = counts_alone h slot id v at all in
      let mine = sum-at (counts_of slot) s.views id v at in dite (dec_le released_mark n)
      (λ above. let g1 = ((h.slots slot is_slot).above above).counted in absurd (omega arith))
      (λ not. let u1 = ((h.slots slot is_slot).below (lt_of_not-le not)).counted in omega arith)

  pub release_keeps : (own : ℕ) → own ≡ counts_of slot v → 1 ≤ own → v.makes ≡ terms.makes
      → Allows (CountRule terms) slots id me slot (λ n. either (eqb n own) released_mark n) (release_plays (step slots slot own released_mark none) me)
  release_keeps own own_is held all_makes s h _ at small = let n : ℕ = get_or s.words slot 0 in
      let met = λ (w : View) (e : w.met ≡ set v.met slot n). ap (λ (l : List ℕ). get_or l slot 0) e ∙ get_or-set_same v.met slot n 0 (let z = wide.met_wide in omega arith) in dite (ℕ_discrete n own)
      (λ hit. (
        after_released v slot n,
        keeps,
        tt,
        subst (λ b. CountsKept terms (set s.words slot (either b released_mark n)) (set s.views id (after_released v slot n))) (sym (eq-eqb n own hit)) (lets_go s h at (omega arith) (hit ∙ own_is)),
        (refl, record { met = met (after_released v slot n) refl; hit = λ _. refl; miss = λ not. absurd (not hit) }),
      ))
      (λ miss. (
        after_step v slot n,
        keeps,
        tt,
        subst (λ b. CountsKept terms (set s.words slot (either b released_mark n)) (set s.views id (after_step v slot n))) (sym (ne_eqb n own miss))
            (looked_at terms s.words s.views h id v (after_step v slot n) at slot is_slot (λ j. unchanged j v (after_step v slot n) refl refl refl) refl refl (let f = h.fair id v at in record { made = f.made; freed = f.freed })),
        (refl, record { met = met (after_step v slot n) refl; hit = λ hit. absurd (miss hit); miss = λ _. (refl, λ all. miss (meets_own s h at (omega arith) (all ∙ all_makes) ∙ sym own_is)) }),
      ))

-- a seat says what it offers
pub offer_keeps : (terms : Terms) (slots id : ℕ) (me : M) (room : ℕ) → 0 < terms.slots → Allows (CountRule terms) slots id me 0 (λ n. either (eqb n room) room n) (offer_plays (step slots 0 room room none) me)
offer_keeps terms slots id me room is_slot s h _ at small =
    let n : ℕ = get_or s.words 0 0 in
    let w : View = record me.0 { offer = room } in (
      w,
      keeps,
      tt,
      subst (λ (x : ℕ). CountsKept terms (set s.words 0 x) (set s.views id w)) (same n)
          (looked_at terms s.words s.views h id me.0 w at 0 is_slot (λ j. unchanged j me.0 w refl refl refl) refl refl (let f = h.fair id me.0 at in record { made = f.made; freed = f.freed })),
      (refl, refl),
    )
  where
    same : (n : ℕ) → n ≡ either (eqb n room) room n
    same n = dite (ℕ_discrete n room) (λ e. e ∙ sym (ap (λ b. either b room n) (eq-eqb n room e))) (λ ne. sym (ap (λ b. either b room n) (ne_eqb n room ne)))

-- a look at the row
module _ (terms : Terms) (words : List ℕ) (views : List View) (h : CountsKept terms words views) (id : ℕ) (v : View) (at : get_elem? views id ≡ some v) (wide : length v.dead ≡ terms.slots) where
  knows_gone : (slot : ℕ) → get_or v.dead slot false ≡ true → OutOfUse views slot (get_or words slot 0)
  knows_gone slot known = dite (dec_le terms.slots slot)
      (λ past. let e : false ≡ true = sym (get_or_past v.dead slot false (omega arith)) ∙ known in absurd (let z : bit false ≡ bit true = ap bit e in omega arith))
      (λ inside. let stands = h.slots slot (lt_of_not-le inside) in dite (dec_le released_mark (get_or words slot 0)) (λ above. stands.above above)
      (λ not. let u2 = (stands.below (lt_of_not-le not)).unknown in let k = sum-at (knows slot) views id v at in let one : bit (get_or v.dead slot false) ≡ 1 = ap bit known in absurd (omega arith)))

  pub sound : v.makes ≡ terms.makes → IsSound v
  sound all = record {
    counts = (h.fair id v at).made;
    most = let s = sum-at share_of views id v at in let m = h.most in omega arith;
    unheld = λ slot known. let g1 = (knows_gone slot known).counted in let c = sum-at (counts_of slot) views id v at in omega arith;
    all_freed = λ full slot known. let g3 = (knows_gone slot known).freed in let a = freed_alone h slot id v at (full ∙ all) in bit_one (get_or v.freed slot false) (omega arith);
  }

pub look_keeps : (terms : Terms) (slots id : ℕ) (me : M) → length me.0.dead ≡ terms.slots → me.0.makes ≡ terms.makes → Allows (CountRule terms) slots id me 0 (λ n. n) (look_plays (step slots 0 0 0 none) me)
look_keeps terms slots id me wide all s h _ at small = (
  me.0,
  keeps,
  tt,
  subst (λ (z : List ℕ × List View). CountsKept terms z.0 z.1) (λ i. (sym (set-get_or s.words 0 0) i, sym (set_again s.views id me.0 at) i)) h,
  (refl, refl, sound terms s.words s.views h id me.0 at wide all),
)
