-- The first entry with which a history is not legal.
use Rattle.std.proofs.Common.{◌≡◌, ℕ, ◌+◌, ◌-◌, ◌≤◌, ◌<◌, List, [], ◌∷◌, ◌++◌, refl, sym, ap, ◌∙◌, subst, arith, length, reverse, take, slice_get, Some}
use Rattle.std.proofs.lemmas.List.{reverse-append}
use Rattle.std.proofs.lemmas.Option.{slice_get_within}
use Rattle.vch_model.specs.Legal.{Legal, LegalPast}
use Rattle.vch_model.specs.declared.entry.Entry.{Entry}
use Rattle.vch_model.specs.declared.lists.Scenario.{Scenario}
use Rattle.vch_script.proofs.CallerLemmas.{take_next}
use Rattle.vch_books.specs.Audits.{Audit, IsSound, past_of}
use Rattle.vch_judge.specs.Follows.{MayFollow}
use Rattle.vch_judge.specs.Judged.{IsFirstIllegal}

-- with the next entry
past_next : (history : List Entry) (taken : ℕ) (entry : Entry) → slice_get history taken ≡ Some entry
    → past_of history (taken + 1) ≡ entry ∷ past_of history taken
past_next history taken entry e =
    ap reverse (sym (take_next history (take taken history) (take taken history ++ entry ∷ []) taken entry entry refl e refl refl))
    ∙ reverse-append (take taken history) (entry ∷ [])

one_less : (n : ℕ) → n + 1 - 1 ≡ n
one_less n = omega arith

pub first_illegal : (a : Audit) (entry : Entry) (number : ℕ) → IsSound a → slice_get a.history a.taken ≡ Some entry
    → (MayFollow a entry → ⊥) → number ≡ a.taken + 1 → IsFirstIllegal a.scenario a.history number
first_illegal a entry number sound e never q = subst (IsFirstIllegal a.scenario a.history) (sym q) (record {
  some = omega arith;
  inside = let w : a.taken < length a.history = slice_get_within a.history a.taken entry e in omega (arith, w);
  before = subst (λ n. LegalPast a.scenario (past_of a.history n)) (sym (one_less a.taken)) sound.legal;
  here = λ l. never (subst (LegalPast a.scenario) (past_next a.history a.taken entry e) l).1;
})
