-- At the start nothing is held or in flight at a key.
use Rattle.std.proofs.Common.{◌≡◌, ℕ, zero, suc, List, [], Some, sym, ap, ◌∙◌, subst}
use Rattle.vch_base.specs.declared.flags.Flags.{Flags}
use Rattle.vch_base.specs.declared.key.Key.{Key}
use Rattle.vch_base.specs.declared.key.Key.TheVariants as keys
use Rattle.vch_base.specs.declared.places.Live.{Live}
use Rattle.vch_base.specs.Managers.{live_at}
use Rattle.vch_value.specs.Picture.{Picture, Depicts}
use Rattle.vch_value.proofs.CallerLemmas.{starts}
use Rattle.vch_values.specs.Parts.{KeyParts, IsNew, new_kept}

unmade_yet : (k : Key) (flags : List Flags) (h : ℕ) (m : Live) → live_at (new_kept k flags).slots h ≡ Some m → m.made ≡ 0
unmade_yet keys.Importance flags zero m e = absurd (cc)
unmade_yet keys.Importance flags (suc h) m e = absurd (cc)
unmade_yet keys.Bank flags zero m e = cc
unmade_yet keys.Bank flags (suc zero) m e = absurd (cc)
unmade_yet keys.Bank flags (suc (suc h)) m e = absurd (cc)
unmade_yet keys.User flags zero m e = absurd (cc)
unmade_yet keys.User flags (suc h) m e = absurd (cc)
unmade_yet keys.Test flags zero m e = absurd (cc)
unmade_yet keys.Test flags (suc h) m e = absurd (cc)

empty : Picture
empty = record { holders = []; receipts = []; claims = [] }

pub new_depicted : (k : Key) (flags : List Flags) (x : KeyParts) → IsNew k flags x → Depicts (record { holders = []; receipts = []; claims = [] }) x.entries x.kept
new_depicted k flags x new =
    subst (λ s. Depicts (record { holders = []; receipts = []; claims = [] }) (record { slots = s; spare = x.entries.spare }) x.kept) (sym new.entries)
    (starts x.entries.spare x.kept (λ h m e. unmade_yet k flags h m (sym (ap (λ y. live_at y.slots h) new.kept) ∙ e)))
