-- Sums over the keys.
use Rattle.std.proofs.Common.{◌≡◌, ◌<◌, ◌≤◌, ℕ, ◌+◌, ◌^◌, [], ◌∷◌, length, refl, arith}
use Rattle.std.specs.List.{count_by, sum_by}
use Rattle.std.proofs.lemmas.List.Sums.{sum_by-cons, count_by-le-length}
use Rattle.vch_base.specs.declared.key.Key.{Key}
use Rattle.vch_base.specs.declared.key.Key.TheVariants as keys
use Rattle.vch_base.specs.Keyed.{Keyed, of_key}
use Rattle.vch_base.specs.Keys.{every_key}
use Rattle.vch_base.specs.Slots.{is_taken}
use Rattle.vch_values.specs.Parts.{KeyParts, live_in}

pub over_keys : (f : Key → ℕ) → sum_by f every_key ≡ f keys.Importance + f keys.Bank + f keys.User + f keys.Test
over_keys f =
    let a = sum_by-cons f keys.Importance (keys.Bank ∷ keys.User ∷ keys.Test ∷ []) in
    let b = sum_by-cons f keys.Bank (keys.User ∷ keys.Test ∷ []) in
    let c = sum_by-cons f keys.User (keys.Test ∷ []) in
    let d = sum_by-cons f keys.Test [] in
    let e : sum_by f [] ≡ 0 = refl in
    omega (arith, a, b, c, d, e)

-- no more values are live than handles were used
pub few_live : (x : Keyed KeyParts) → ((k : Key) → length (of_key k x).kept.slots ≤ 4294967295) → live_in x < 2 ^ 64
few_live x few =
    let s = over_keys (λ k. count_by is_taken (of_key k x).kept.slots) in
    let a : count_by is_taken x.importance.kept.slots ≤ length x.importance.kept.slots = count_by-le-length is_taken x.importance.kept.slots in
    let b : count_by is_taken x.bank.kept.slots ≤ length x.bank.kept.slots = count_by-le-length is_taken x.bank.kept.slots in
    let c : count_by is_taken x.user.kept.slots ≤ length x.user.kept.slots = count_by-le-length is_taken x.user.kept.slots in
    let d : count_by is_taken x.test.kept.slots ≤ length x.test.kept.slots = count_by-le-length is_taken x.test.kept.slots in
    let fa : length x.importance.kept.slots ≤ 4294967295 = few keys.Importance in
    let fb : length x.bank.kept.slots ≤ 4294967295 = few keys.Bank in
    let fc : length x.user.kept.slots ≤ 4294967295 = few keys.User in
    let fd : length x.test.kept.slots ≤ 4294967295 = few keys.Test in
    omega (arith, s, a, b, c, d, fa, fb, fc, fd)
