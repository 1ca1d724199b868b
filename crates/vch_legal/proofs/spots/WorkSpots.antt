-- Work and a refusal change no spot.
use Rattle.std.proofs.Common.{◌≡◌, ℕ, ◌+◌, Bool, List, [], ◌∷◌, ◌++◌, refl, true, false, not, ◌&&◌, ◌||◌, arith, sym, ap, ◌∙◌, subst, length, map, Some, None, Option, Ok, Err, Result}
use Rattle.std.specs.Prelude.{if◌then◌else◌, ◌==◌, ℤ}
use Rattle.std.specs.List.{list_any, flat_map}
use Rattle.std.proofs.lemmas.List.Folds.{list_any-append}
use Rattle.vch_base.specs.declared.key.Key.{Key}
use Rattle.vch_base.specs.declared.key.Key.TheVariants as keys
use Rattle.vch_base.specs.Keys.{number_of, every_key, managed, key_of}
use Rattle.vch_base.specs.Keyed.{of_key, with_key}
use Rattle.vch_base.specs.declared.commands.TheConstants as commands
use Rattle.vch_base.specs.declared.key.TheConstants.{ALL_KEYS}
use Rattle.vch_base.proofs.CallerLemmas.{with_of}
use Rattle.vch_recipe.specs.Recipes.{First, One}
use Rattle.vch_recipe.specs.declared.recipe.Recipe.{Recipe}
use Rattle.vch_model.specs.declared.call.Call.{Call}
use Rattle.vch_model.specs.Eval.{is_core_command, is_plain_command}
use Rattle.vch_machine.specs.State.{Handles, Place, same_place, Named, Frame, Machine, tasked, has_place, option_has, is_handle, frame_holds, frame_expects, frame_claims}
use Rattle.vch_machine.specs.Frames.{closed, with_frame, refuse}
use Rattle.vch_machine.specs.Naming.{item, places, option_places, handles_of, same_handle}
use Rattle.vch_machine.specs.Working.{copies, removes, changed, changed_at, changed_each, changed_keys, copied, worked, worked_with, work_first, WorkDone, work_done}
use Rattle.vch_legal.specs.Facts.{spot}
use Rattle.vch_legal.proofs.facts.Choices.{and_right, cases_bool}
use Rattle.vch_legal.proofs.spots.Places.{same_key, closed_holds, closed_expects, closed_claims}
use Rattle.vch_legal.proofs.spots.FrameSpots.{one_eq, names_hold, queue_holds, others_hold, kept_named, others_expect, claims_before, claims_behind, spot_set, spot_of, spot_same, task_in_range}

abbrev at_key : Key → ℕ → Place
at_key k h = record { key = k; handle = h }

abbrev pub lets_hold : List Place → Place → Bool
lets_hold lets p = list_any (λ q. same_place q p) lets

-- what an item of a key is to a place
pub item_holds : (k g : Key) (x : Option ℕ) (n : ℕ) → lets_hold (item k x) (at_key g n) ≡
    ((number_of k == number_of g) && is_handle x n)
item_holds k g None n = and_false (number_of k == number_of g)
  where
    and_false : (b : Bool) → false ≡ (b && false)
    and_false b = grind arith
item_holds k g (Some h) n = or_false ((number_of k == number_of g) && (h == n))
  where
    or_false : (b : Bool) → (b || false) ≡ b
    or_false b = grind arith

pub of_voucher : (k g : Key) (x : Option ℕ) (v : Handles) (n : ℕ)
    → is_handle (of_key g (with_key k x v)) n ≡ (if number_of k == number_of g then is_handle x n else is_handle
    (of_key g v) n)
of_voucher k g x v n =
    ap (λ o. is_handle o n) (with_of g k x v) ∙ (either (number_of g == number_of k)
    ∙ ap (λ b. if b then is_handle x n else is_handle (of_key g v) n) (turned k g))
  where
    either : (b : Bool) → is_handle (if b then x else of_key g v) n ≡ (if b then is_handle x n else is_handle
        (of_key g v) n)
    either true = refl
    either false = refl

    turned : (k g : Key) → (number_of g == number_of k) ≡ (number_of k == number_of g)
    turned k g = grind arith

pub same_key_handle : (k g : Key) (v : Handles) (n : ℕ) → ((number_of k == number_of g) && is_handle (of_key k v) n) ≡
    ((number_of k == number_of g) && is_handle (of_key g v) n)
same_key_handle k g v n =
    cases_bool (number_of k == number_of g) (((number_of k == number_of g) && is_handle (of_key k v) n) ≡
    ((number_of k == number_of g) && is_handle (of_key g v) n))
    (λ here. subst (λ (j : Key). ((number_of k == number_of j) && is_handle (of_key k v) n) ≡
    ((number_of k == number_of j) && is_handle (of_key j v) n)) (same_key k g here) refl)
    (λ other. rw other)

swap_bools : (same x y a n : Bool) → ((same && x) ≡ true → n ≡ true)
    → (((if same then x else y) || (a || (same && y))) || n) ≡ ((y || a) || n)
swap_bools true true true a n h = let k : n ≡ true = h refl in grind arith
swap_bools true true false a n h = let k : n ≡ true = h refl in grind arith
swap_bools true false y a n h = grind arith
swap_bools false x y a n h = grind arith

-- a key of a map is replaced, and what was there goes to a list; what is new is held already
pub swap_holds : (k g : Key) (x : Option ℕ) (v : Handles) (h : ℕ) (lets : List Place) (n : Bool)
    → (((number_of k == number_of g) && is_handle x h) ≡ true → n ≡ true)
    → ((has_place (with_key k x v) (at_key g h) || lets_hold (lets ++ item k (of_key k v)) (at_key g h)) || n) ≡
    ((has_place v (at_key g h) || lets_hold lets (at_key g h)) || n)
swap_holds k g x v h lets n new =
    ap (λ b. (has_place (with_key k x v) (at_key g h) || b) || n)
    (list_any-append (λ q. same_place q (at_key g h)) lets (item k (of_key k v))
    ∙ ap (λ b. lets_hold lets (at_key g h) || b) (item_holds k g (of_key k v) h ∙ same_key_handle k g v h))
    ∙ (ap (λ b. (b || (lets_hold lets (at_key g h) || ((number_of k == number_of g) && is_handle (of_key g v) h)))
    || n) (of_voucher k g x v h)
    ∙ swap_bools (number_of k == number_of g) (is_handle x h) (is_handle (of_key g v) h)
    (lets_hold lets (at_key g h)) n new)

-- what a map and the handles that left it hold
abbrev pub worked_holds : WorkDone → Place → Bool
worked_holds w p = has_place w.forming p || lets_hold w.left p

pub changed_holds : (k : Key) (x : Option (Option ℕ)) (w : WorkDone) (p : Place) (n : Bool)
    → ((y : Option ℕ) → x ≡ Some y → ((number_of k == number_of p.key) && is_handle y p.handle) ≡ true → n ≡ true)
    → (worked_holds (changed k x w) p || n) ≡ (worked_holds w p || n)
changed_holds k None w p n new = refl
changed_holds k (Some y) w p n new = swap_holds k p.key y w.forming p.handle w.left n (new y refl)

two_or : (a b c d : Bool) → a ≡ c → b ≡ d → (a || b) ≡ (c || d)
two_or a b c d x y = cc

-- the handles at some keys
some_hold : (v : Handles) (p : Place) (ks : List Key) → lets_hold (flat_map (λ k. item k (of_key k v)) ks) p ≡
    list_any (λ k. (number_of k == number_of p.key) && is_handle (of_key k v) p.handle) ks
some_hold v p [] = refl
some_hold v p (k ∷ ks) =
    list_any-append (λ q. same_place q p) (item k (of_key k v)) (flat_map (λ j. item j (of_key j v)) ks)
    ∙ two_or _ _ _ _ (item_holds k p.key (of_key k v) p.handle) (some_hold v p ks)

at_its_key : (g : Key) (v : Handles) (h : ℕ) → list_any (λ k. (number_of k == number_of g) && is_handle (of_key k v) h)
    every_key ≡ is_handle (of_key g v) h
at_its_key g v h = by_key g
  where
    or_false : (b : Bool) → (b || false) ≡ b
    or_false b = grind arith

    by_key : (g : Key) → list_any (λ k. (number_of k == number_of g) && is_handle (of_key k v) h) every_key ≡ is_handle
        (of_key g v) h
    by_key keys.Importance = or_false (is_handle v.importance h)
    by_key keys.Bank = or_false (is_handle v.bank h)
    by_key keys.User = or_false (is_handle v.user h)
    by_key keys.Test = or_false (is_handle v.test h)

-- all handles of a voucher
pub places_hold : (v : Handles) (p : Place) → lets_hold (places v) p ≡ has_place v p
places_hold v p = some_hold v p every_key ∙ at_its_key p.key v p.handle

option_places_hold : (v : Option Handles) (p : Place) → lets_hold (option_places v) p ≡ option_has v p
option_places_hold None p = refl
option_places_hold (Some v) p = places_hold v p

-- a refusal changes no spot
pub refuse_spot : (m : Machine) (t : ℕ) (f : Frame) (call : Call) (code : ℤ) (p : Place) → (tasked m t).frame ≡ Some f
    → spot (refuse m t f call code) p ≡ spot m p
refuse_spot m t f call code p e =
    spot_same m t f (closed left) p e
    (closed_holds left p (λ _. refl) ∙ (list_any-append (λ q. same_place q p) f.lets (option_places f.forming)
    ∙ (ap (λ b. lets_hold f.lets p || b) (option_places_hold f.forming p)
    ∙ or_comm (lets_hold f.lets p) (option_has f.forming p))))
    (closed_expects left p) (closed_claims left p)
  where
    left : Frame
    left = record f { forming = None; answered = true; keys = []; lets = f.lets ++ option_places f.forming }

    or_comm : (a b : Bool) → (a || b) ≡ (b || a)
    or_comm a b = grind arith

-- a frame that holds what it held, or what a name or a message holds
pub spot_alike : (m : Machine) (t : ℕ) (f : Frame) (g : Option Frame) (p : Place) → (tasked m t).frame ≡ Some f
    → (frame_holds g p || kept_named m t p) ≡ (frame_holds (Some f) p || kept_named m t p)
    → frame_expects g p ≡ frame_expects (Some f) p → frame_claims g p ≡ frame_claims (Some f) p
    → spot (with_frame m t g) p ≡ spot m p
spot_alike m t f g p e holds expects claims =
    spot_set m t g p (task_in_range m t f e)
    ∙ (one_eq _ _ _ _ _ _ _ _ holds (ap (λ h. h || others_expect m t p) expects)
    (ap (λ cs. claims_before m t p ++ (cs ++ claims_behind m t p)) claims)
    ∙ sym (spot_of m t f p e))

-- a voucher of a name is held by it
pub named_holds : (names : List Named) (name : ℕ) (v : Handles) (p : Place) → handles_of names name ≡ Some v
    → has_place v p ≡ true → list_any (λ (n : Named). has_place n.voucher p) names ≡ true
named_holds [] name v p e h = cc
named_holds (n ∷ names) name v p e h =
    cases_bool (n.name == name) ((has_place n.voucher p || list_any (λ (n : Named). has_place n.voucher p) names)
    ≡ true)
    (λ here. let k : Some n.voucher ≡ Some v = rw here at e in rw (ap (λ w. option_has w p) k, h) refl)
    (λ other. let k : handles_of names name ≡ Some v = rw other at e in
    let i : list_any (λ (n : Named). has_place n.voucher p) names ≡ true =
    named_holds names name v p k h in rw i (or_true (has_place n.voucher p)))
  where
    or_true : (a : Bool) → (a || true) ≡ true
    or_true a = grind arith

-- what a result holds, if it is one
abbrev HoldsAs : Place → Bool → WorkDone → Result WorkDone ℤ → Type 0
HoldsAs p n w (Ok x) = (worked_holds x p || n) ≡ (worked_holds w p || n)
HoldsAs p n w (Err code) = Unit {0}

-- all changes of keys whose new handles are held already
abbrev Known : Place → Bool → (Key → Option (Option ℕ)) → Type 0
Known p n f = (k : Key) (y : Option ℕ) → f k ≡ Some y → ((number_of k == number_of p.key) && is_handle y p.handle)
    ≡ true → n ≡ true

changed_at_holds : (f : Key → Option (Option ℕ)) (k : Option Key) (w : WorkDone) (p : Place) (n : Bool) → Known p n f
    → HoldsAs p n w (changed_at f k w)
changed_at_holds f None w p n known = tt
changed_at_holds f (Some k) w p n known = changed_holds k (f k) w p n (known k)

if_holds : (p : Place) (n : Bool) (w : WorkDone) (b : Bool) (x y : Result WorkDone ℤ) → HoldsAs p n w x → HoldsAs p n w y
    → HoldsAs p n w (if b then x else y)
if_holds p n w true x y g h = g
if_holds p n w false x y g h = h

changed_each_holds : (f : Key → Option (Option ℕ)) (ks : List Key) (w : WorkDone) (p : Place) (n : Bool) → Known p n f
    → (worked_holds (changed_each f ks w) p || n) ≡ (worked_holds w p || n)
changed_each_holds f [] w p n known = refl
changed_each_holds f (k ∷ ks) w p n known = changed_each_holds f ks (changed k (f k) w) p n known
    ∙ changed_holds k (f k) w p n (known k)

changed_keys_holds : (version : ℕ) (f : Key → Option (Option ℕ)) (key : ℕ) (w : WorkDone) (p : Place) (n : Bool)
    → Known p n f → HoldsAs p n w (changed_keys version f key w)
changed_keys_holds version f key w p n known =
    if_holds p n w (key == ALL_KEYS) _ _ (changed_each_holds f (managed version) w p n known)
    (changed_at_holds f (key_of version key) w p n known)

none_new : (a : Bool) (y : Option ℕ) (h : ℕ) (n : Bool) → None ≡ y → (a && is_handle y h) ≡ true → n ≡ true
none_new a y h n e g = let k : (a && false) ≡ true = subst (λ z. (a && is_handle z h) ≡ true) (sym e) g in grind arith

removes_if : (b : Bool) (k : Key) (y : Option ℕ) (p : Place) (n : Bool) → (if b then Some None else None) ≡ Some y
    → ((number_of k == number_of p.key) && is_handle y p.handle) ≡ true → n ≡ true
removes_if true k y p n e h = let i : None ≡ y = cc in none_new (number_of k == number_of p.key) y p.handle n i h
removes_if false k y p n e h = cc

removes_known : (previous : Option Handles) (map : Handles) (p : Place) (n : Bool) → Known p n (removes previous map)
removes_known None map p n k y e h = let i : None ≡ y = cc in none_new (number_of k == number_of p.key) y p.handle n i
    h
removes_known (Some v) map p n k y e h = removes_if (same_handle (of_key k v) (of_key k map)) k y p n e h

copies_known : (v map : Handles) (p : Place) (n : Bool) → (has_place v p ≡ true → n ≡ true)
    → Known p n (copies (Some v) map)
copies_known v map p n held k y e h =
    let i : of_key k v ≡ y = cc in
    held (and_right (number_of k == number_of p.key) (has_place v p)
    (sym (same_key_handle k p.key v p.handle) ∙ subst (λ z. ((number_of k == number_of p.key) && is_handle z p.handle)
    ≡ true) (sym i) h))

copied_holds : (version : ℕ) (previous : Option Handles) (key : ℕ) (w : WorkDone) (p : Place) (n : Bool)
    → (option_has previous p ≡ true → n ≡ true) → HoldsAs p n w (copied version previous key w)
copied_holds version None key w p n held = refl
copied_holds version (Some v) key w p n held = changed_keys_holds version (copies (Some v) w.forming) key w p n
    (copies_known v w.forming p n held)

worked_as : (version : ℕ) (r : Recipe) (previous : Option Handles) (w : WorkDone) (p : Place) (n : Bool)
    → (option_has previous p ≡ true → n ≡ true) → HoldsAs p n w (worked version r previous w)
worked_as version r previous w p n held =
    if_holds p n w (is_core_command r.command) _ _ tt
    (if_holds p n w (is_plain_command r.command) _ _
    (if_holds p n w (not (length r.content == 0)) _ _ tt
    (if_holds p n w (r.command == commands.NOOP) _ _ refl
    (if_holds p n w (r.command == commands.COPY) _ _ (copied_holds version previous r.key w p n held)
    (changed_keys_holds version (removes previous w.forming) r.key w p n (removes_known previous w.forming p n)))))
    tt)

with_as : (version : ℕ) (r : Recipe) (previous : Option Handles) (w : WorkDone) (p : Place) (n : Bool)
    → (option_has previous p ≡ true → n ≡ true) → HoldsAs p n w (worked_with version r previous w)
with_as version r None w p n held = tt
with_as version r (Some v) w p n held = worked_as version r (Some v) w p n held

absurd_false : (n : Bool) → false ≡ true → n ≡ true
absurd_false n e = cc

option_held : (names : List Named) (name : ℕ) (p : Place) (v : Option Handles) → handles_of names name ≡ v
    → option_has v p ≡ true → list_any (λ (n : Named). has_place n.voucher p) names ≡ true
option_held names name p None e h = cc
option_held names name p (Some v) e h = named_holds names name v p e h

first_as : (version : ℕ) (names : List Named) (first : First) (map : Handles) (p : Place) (n : Bool)
    → (list_any (λ (n : Named). has_place n.voucher p) names ≡ true → n ≡ true)
    → HoldsAs p n (record { forming = map; left = [] }) (work_first version names first map)
first_as version names (One r rest) map p n held =
    if_holds p n (record { forming = map; left = [] }) (r.previous == 0) _ _
    (worked_as version r None (record { forming = map; left = [] }) p n (absurd_false n))
    (with_as version r (handles_of names r.previous) (record { forming = map; left = [] }) p n
    (λ h. held (option_held names r.previous p (handles_of names r.previous) refl h)))
first_as version names First.End map p n held = tt
first_as version names (First.HeaderCut left) map p n held = tt
first_as version names (First.ContentCut wanted left) map p n held = tt

or_three : (a b c : Bool) → a ≡ true → ((a || b) || c) ≡ true
or_three a b c e = grind arith

join_lets : (g a x y n : Bool) → ((g || x) || n) ≡ ((y || false) || n) → ((g || (a || x)) || n) ≡ ((y || a) || n)
join_lets g a x y n e = grind arith

-- Work changes no spot
pub work_spot : (m : Machine) (t : ℕ) (f : Frame) (version : ℕ) (v : Handles) (call : Call) (size : ℕ) (first : First)
    (r : Result WorkDone ℤ) (p : Place) → (tasked m t).frame ≡ Some f
    → f.forming ≡ Some v → r ≡ work_first version (tasked m t).names first v
    → spot (work_done m t f call size r) p ≡ spot m p
work_spot m t f version v call size first (Err code) p e forming eq = refuse_spot m t f call code p e
work_spot m t f version v call size first (Ok w) p e forming eq =
    spot_alike m t f (Some (record f {
      forming = Some w.forming;
      at_byte = f.at_byte + size;
      lets = f.lets ++ w.left;
    })) p e
    (ap (λ b. (has_place w.forming p || b) || kept_named m t p) (list_any-append (λ q. same_place q p) f.lets w.left)
    ∙ (join_lets (has_place w.forming p) (lets_hold f.lets p) (lets_hold w.left p) (has_place v p)
    (kept_named m t p) held
    ∙ sym (ap (λ x. (option_has x p || lets_hold f.lets p) || kept_named m t p) forming)))
    refl refl
  where
    held : ((has_place w.forming p || lets_hold w.left p) || kept_named m t p) ≡
        ((has_place v p || false) || kept_named m t p)
    held = subst (λ (x : Result WorkDone ℤ). HoldsAs p (kept_named m t p) (record { forming = v; left = [] }) x) (sym eq)
        (first_as version (tasked m t).names first v p (kept_named m t p)
        (λ h. or_three (names_hold m t p) (queue_holds m t p) (others_hold m t p) h))
