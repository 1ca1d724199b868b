-- The laws of the rule.
use Rattle.std.proofs.Common.{◌≡◌, ℕ, true, false, List, get_or, set, ap, ◌∙◌, subst, arith, get_or-set_same, lt_of_not-le}
use mathlib.Core.Logic.{dite}
use native.Mathlib.Decide.{dec_le}
use Rattle.vch_made.specs.Seats.{released_mark}
use Rattle.vch_made.specs.Counting.{bit, counts_of, knows, freed_by, IsSlotWord}
use Rattle.vch_made.specs.Laws.{SlotStep, OnlyTheHolderReleases, StaysReleased, NoReleaseLeavesTheWord}
use Rattle.vch_made.specs.declared.view.View.{View}
use Rattle.vch_made.specs.declared.view.Terms.{Terms}
use Rattle.vch_made.proofs.Sums.{sum-set, sum-at, sum-two}
use Rattle.vch_made.proofs.Keeps.{tries_few, counts_few}

module _ {terms : Terms} {words : List ℕ} {views : List View} {seat : ℕ} {v w : View} {slot word : ℕ} (t : SlotStep terms words views seat v w slot word) where
  word_after : IsSlotWord (set views seat w) slot word
  word_after = subst (IsSlotWord (set views seat w) slot) (get_or-set_same words slot word 0 (let z = t.before.size in let y = t.is_slot in omega arith)) (t.after.slots slot t.is_slot)

pub holder : OnlyTheHolderReleases
holder terms words views seat v w slot word t below above =
    let u = ((t.before.slots slot t.is_slot).below below).counted in
    let g = ((word_after t).above above).counted in
    let c = sum-set (counts_of slot) views seat v w t.seated in
    let mine = sum-at (counts_of slot) views seat v t.seated in
    (omega arith, λ other z apart there. let two = sum-two (counts_of slot) views seat other v z t.seated apart there in omega arith)

pub stays : StaysReleased
stays terms words views seat v w slot word t above more = dite (dec_le released_mark word) (λ d. d)
    (λ not. let g = ((t.before.slots slot t.is_slot).above above).freed in let u = ((word_after t).below (lt_of_not-le not)).unfreed in
    let f = sum-set (freed_by slot) views seat v w t.seated in absurd (omega arith))

pub leaves_none : NoReleaseLeavesTheWord
leaves_none terms words views seat v w slot t held met inside told =
    let few = counts_few t.before slot in
    let fewer = tries_few t.before in
    let b = t.before.bound in
    let mine = sum-at (counts_of slot) views seat v t.seated in
    dite (dec_le released_mark (get_or words slot 0))
    (λ above. let g = ((t.before.slots slot t.is_slot).above above).counted in omega arith)
    (λ not. let u = ((word_after t).below (lt_of_not-le not)).unknown in
    let one : knows slot w ≡ 1 = ap (λ (x : View). knows slot x) (told.hit met) ∙ ap bit (get_or-set_same v.dead slot true false inside) in
    let k = sum-set (knows slot) views seat v w t.seated in
    let kv = sum-at (knows slot) views seat v t.seated in
    let k0 = ((t.before.slots slot t.is_slot).below (lt_of_not-le not)).unknown in omega arith)
