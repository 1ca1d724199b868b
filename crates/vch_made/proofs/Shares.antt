-- A seat that is cut in two, and two that are made one, keep the rule.
use Rattle.std.proofs.Common.{◌≡◌, ◌≢◌, ⊎_elim, ℕ, ◌+◌, ◌≤◌, false, [], ◌∷◌, ◌++◌, get_or, set, length, sym, ap, ◌∙◌, subst, arith}
use Rattle.std.proofs.lemmas.List.Sums.{sum_by_push}
use mathlib.Core.Option.{some}
use lib.ListN.{get_elem?}
use Rattle.atomic_table.specs.Table.{Splits, Joins}
use Rattle.atomic_table.proofs.Lists.{at_set, at_snoc, set_else}
use Rattle.vch_made.specs.Counting.{bit, counts_of, knows, freed_by, tries_of, share_of, IsSlotWord, IsFair, CountRule}
use Rattle.vch_made.specs.Plays.{kept_part, new_part, both_views, spent_view}
use Rattle.vch_made.specs.declared.view.View.{View}
use Rattle.vch_made.specs.declared.view.Terms.{Terms}
use Rattle.vch_made.proofs.CallerLemmas.{added-at, united-at}
use Rattle.vch_made.proofs.Sums.{sum-set, sum-at, sum-two, all_same, sum_of_zeros, sum-added, bit-or-le, bit-or-one}

-- a new seat has spent_view
new_counts : (v : View) (slot : ℕ) → counts_of slot (new_part v) ≡ 0
new_counts v slot = all_same (length v.own) slot 0

new_freed : (v : View) (slot : ℕ) → freed_by slot (new_part v) ≡ 0
new_freed v slot = ap bit (all_same (length v.own) slot false)

new_fair : (v : View) → IsFair (new_part v)
new_fair v = record { made = let z = sum_of_zeros (length v.own) in omega arith; freed = λ slot. let z = new_freed v slot in omega arith }

pub split_keeps : (terms : Terms) (id : ℕ) (v : View) → v.offer ≤ v.room → Splits (CountRule terms) id v (kept_part v) (new_part v)
split_keeps terms id v fits s h at = record {
  size = h.size;
  slots = λ slot inside. stands slot (get_or s.words slot 0) (h.slots slot inside);
  fair = λ i u e. ⊎_elim
      (λ (old : get_elem? (set s.views id (kept_part v)) i ≡ some u). ⊎_elim (λ (t : (i ≡ id) × ((kept_part v) ≡ u)). subst IsFair t.1 mine) (λ (t : (i ≢ id) × (get_elem? s.views i ≡ some u)). h.fair i u t.1) (at_set s.views id i (kept_part v) u old))
      (λ (new : (new_part v) ≡ u). subst IsFair new (new_fair v))
      (at_snoc (set s.views id (kept_part v)) (new_part v) u i e);
  most =
      let a = sum-set share_of s.views id v (kept_part v) at in
      let b = sum_by_push share_of (set s.views id (kept_part v)) (new_part v) in
      let m = h.most in omega arith;
  bound = h.bound;
}
  where
    mine : IsFair (kept_part v)
    mine = let f = h.fair id v at in record { made = f.made; freed = f.freed }

    stands : (slot word : ℕ) → IsSlotWord s.views slot word → IsSlotWord (set s.views id (kept_part v) ++ (new_part v) ∷ []) slot word
    stands slot word was =
        let c = sum-set (counts_of slot) s.views id v (kept_part v) at in
        let k = sum-set (knows slot) s.views id v (kept_part v) at in
        let f = sum-set (freed_by slot) s.views id v (kept_part v) at in
        let t = sum-set tries_of s.views id v (kept_part v) at in
        let c' = sum_by_push (counts_of slot) (set s.views id (kept_part v)) (new_part v) in
        let k' = sum_by_push (knows slot) (set s.views id (kept_part v)) (new_part v) in
        let f' = sum_by_push (freed_by slot) (set s.views id (kept_part v)) (new_part v) in
        let t' = sum_by_push tries_of (set s.views id (kept_part v)) (new_part v) in
        let c0 = new_counts v slot in
        let f0 = new_freed v slot in
        let k0 = sum-at (knows slot) s.views id v at in
        record {
          below = λ lt. let u = was.below lt in let u1 = u.counted in let u2 = u.unknown in let u3 = u.unfreed in record { counted = omega arith; unknown = omega arith; unfreed = omega arith };
          above = λ le. let g = was.above le in let g1 = g.counted in let g2 = g.tried in let g3 = g.freed in record { counted = omega arith; tried = omega arith; freed = omega arith };
        }

pub join_keeps : (terms : Terms) (id other : ℕ) (v w : View) → Joins (CountRule terms) id v other w (both_views v w) spent_view
join_keeps terms id other v w s h at apart there = record {
  size = h.size;
  slots = λ slot inside. stands slot (get_or s.words slot 0) (h.slots slot inside);
  fair = λ i u e. ⊎_elim
      (λ (t : (i ≡ other) × (spent_view ≡ u)). subst IsFair t.1 (record { made = omega arith; freed = λ slot. omega arith }))
      (λ (t : (i ≢ other) × (get_elem? (set s.views id (both_views v w)) i ≡ some u)).
      ⊎_elim (λ (x : (i ≡ id) × (both_views v w ≡ u)). subst IsFair x.1 mine) (λ (x : (i ≢ id) × (get_elem? s.views i ≡ some u)). h.fair i u x.1) (at_set s.views id i (both_views v w) u t.1))
      (at_set (set s.views id (both_views v w)) other i spent_view u e);
  most =
      let a = sum-set share_of s.views id v (both_views v w) at in
      let b = sum-set share_of (set s.views id (both_views v w)) other w spent_view there in
      let m = h.most in omega arith;
  bound = h.bound;
}
  where
    was_there : get_elem? s.views other ≡ some w
    was_there = sym (set_else s.views id other (both_views v w) apart) ∙ there

    freed_both : (slot : ℕ) → freed_by slot v + freed_by slot w ≤ 1 → freed_by slot (both_views v w) ≡ freed_by slot v + freed_by slot w
    freed_both slot one = ap bit (united-at v.freed w.freed slot) ∙ bit-or-one (get_or v.freed slot false) (get_or w.freed slot false) one

    knows_both : (slot : ℕ) → knows slot (both_views v w) ≤ knows slot v + knows slot w
    knows_both slot = subst (λ b. bit b ≤ knows slot v + knows slot w) (sym (united-at v.dead w.dead slot)) (bit-or-le (get_or v.dead slot false) (get_or w.dead slot false))

    mine : IsFair (both_views v w)
    mine =
        let f = h.fair id v at in
        let g = h.fair other w was_there in
        let f1 = f.made in
        let g1 = g.made in
        let a = sum-added v.own w.own in record {
          made = omega arith;
          freed = λ slot. let x = f.freed slot in let y = g.freed slot in
              let z = subst (λ b. bit b ≤ freed_by slot v + freed_by slot w) (sym (united-at v.freed w.freed slot)) (bit-or-le (get_or v.freed slot false) (get_or w.freed slot false)) in omega arith;
        }

    stands : (slot word : ℕ) → IsSlotWord s.views slot word → IsSlotWord (set (set s.views id (both_views v w)) other spent_view) slot word
    stands slot word was = let l = set s.views id (both_views v w) in
        let c = sum-set (counts_of slot) s.views id v (both_views v w) at in
        let k = sum-set (knows slot) s.views id v (both_views v w) at in
        let f = sum-set (freed_by slot) s.views id v (both_views v w) at in
        let t = sum-set tries_of s.views id v (both_views v w) at in
        let c' = sum-set (counts_of slot) l other w spent_view there in
        let k' = sum-set (knows slot) l other w spent_view there in
        let f' = sum-set (freed_by slot) l other w spent_view there in
        let t' = sum-set tries_of l other w spent_view there in
        let cb = added-at v.own w.own slot in
        let kb = knows_both slot in
        let two = sum-two (freed_by slot) s.views id other v w at apart was_there in
        record {
          below = λ lt. let u = was.below lt in let u1 = u.counted in let u2 = u.unknown in let u3 = u.unfreed in let fb = freed_both slot (omega arith) in record { counted = omega arith; unknown = omega arith; unfreed = omega arith };
          above = λ le. let g = was.above le in let g1 = g.counted in let g2 = g.tried in let g3 = g.freed in let fb = freed_both slot (omega arith) in record { counted = omega arith; tried = omega arith; freed = omega arith };
        }
