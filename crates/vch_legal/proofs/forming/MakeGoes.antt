-- What the next key of a call is asked for, and what its answer does to what the call has formed.
use Rattle.std.proofs.Common.{◌≡◌, ℕ, Bool, List, [], ◌∷◌, ◌++◌, refl, true, false, ◌||◌, sym, ap, ◌∙◌, subst, drop, Some, None, Option, Ok, Err, Result, append_assoc}
use Rattle.std.specs.Prelude.{if◌then◌else◌, ◌==◌, not, ℤ}
use Rattle.vch_base.specs.declared.key.Key.{Key}
use Rattle.vch_base.specs.declared.key.TheConstants.{ALL_KEYS}
use Rattle.vch_base.specs.declared.codes.TheConstants.{KERN_RESOURCE_SHORTAGE}
use Rattle.vch_base.specs.declared.key.Key.TheVariants as keys
use Rattle.vch_base.specs.Keyed.{of_key, with_key}
use Rattle.vch_base.specs.Keys.{number_of, managed, key_of}
use Rattle.vch_base.specs.declared.kind.Kind.TheVariants as kinds
use Rattle.vch_base.specs.declared.value.Value.{Value}
use Rattle.vch_base.specs.Managers.{preprocessed, mapped}
use Rattle.vch_recipe.specs.Recipes.{First, One, End, HeaderCut, ContentCut, first_of}
use Rattle.vch_recipe.specs.declared.recipe.Recipe.{Recipe}
use Rattle.vch_model.specs.declared.call.Call.{Call}
use Rattle.vch_model.specs.declared.call.Call.TheVariants as calls
use Rattle.vch_model.specs.declared.lists.Scenario.{Scenario}
use Rattle.vch_model.specs.Voucher.{Voucher}
use Rattle.vch_model.specs.Store.{is_full}
use Rattle.vch_model.specs.Transfer.{received_value, before, after}
use Rattle.vch_model.specs.Legal.{asks}
use Rattle.vch_machine.specs.State.{Handles, Living, Named, Frame, Machine, tasked, seen, value_at, valued, member_of, is_empty}
use Rattle.vch_machine.specs.Frames.{refuse}
use Rattle.vch_machine.specs.Making.{Asked, keys_left, head_key, tail_keys, asked_record, asked_by, asked_first, asked_transfer}
use Rattle.vch_machine.specs.Next.{known_name, first_next, call_next}
use Rattle.vch_legal.specs.Tie.{AllAmong, transfer_keys, FormsCreate, FormsSend, FormsRecv, Forms, moved_place, moved_keys, WasTransferred, sent_keys, received_keys}
use Rattle.vch_legal.proofs.facts.Choices.{some_eq}
use Rattle.vch_legal.proofs.values.ValueKeys.{among_number}
use Rattle.vch_legal.proofs.seen.SeenHeld.{value_at_key}
use Rattle.vch_legal.proofs.forming.Records.{seen_names, asks_same}
use Rattle.vch_legal.proofs.forming.CreateMakes.{CreateGoes, asked_forms, reaches_whole}
use Rattle.vch_legal.proofs.steps.Standing.{Step}
use Rattle.vch_legal.proofs.steps.Refusals.{Calling, create_refused, create_wants, send_wants, recv_wants}
use Rattle.vch_legal.proofs.steps.Nexts.{some_kind}

-- by the answer: a code refuses the call as the store does; a value or none goes into what is formed
abbrev pub GoesOn : Scenario → ℕ → Machine → Frame → Handles → Call → Key → Result (Option Value) ℤ → Type 0
GoesOn sc t m f v call k (Err code) = Step sc t m (refuse m t f call code)
GoesOn sc t m f v call k (Ok y) =
    Forms sc (member_of m.live (tasked m t)) t call (moved_place sc.version call f.at_byte f.keys)
    (moved_keys sc.version call f.at_byte f.keys) (with_key k y (valued m.live v))

create_answer : (sc : Scenario) (t : ℕ) (m : Machine) (f : Frame) (v : Handles) (bytes : List ℕ) (k : Key)
    (reply : Result (Option Value) ℤ) → Calling sc t m f (calls.Create bytes)
    → FormsCreate sc.version (seen_names m.live (tasked m t).names) t bytes f.at_byte f.keys (valued m.live v)
    → CreateGoes sc.version (seen_names m.live (tasked m t).names) t bytes f.at_byte f.keys (valued m.live v)
    (first_of (drop f.at_byte bytes)) k reply → GoesOn sc t m f v (calls.Create bytes) k reply
create_answer sc t m f v bytes k (Err code) c forms h = create_refused sc t m f bytes code c forms.some forms.few h
create_answer sc t m f v bytes k (Ok y) c forms h = h

asking : (b : Bool) → (if b then kinds.Make else kinds.Work) ≡ kinds.Make → b ≡ true
asking true e = refl
asking false e = cc

-- the record of a create where a Make is next
record Asking (sc : Scenario) (t : ℕ) (m : Machine) (first : First) : Type 0 where
  recipe : Recipe
  rest : List ℕ
  is : first ≡ One recipe rest
  it_asks : asks sc.version (seen_names m.live (tasked m t).names) recipe ≡ true

asking_at : (sc : Scenario) (t : ℕ) (m : Machine) (first : First)
    → first_next sc.version (tasked m t).names first ≡ kinds.Make
    → Asking sc t m first
asking_at sc t m (One r rest) e = record {
  recipe = r;
  rest = rest;
  is = refl;
  it_asks = sym
      (asks_same sc.version m.live (tasked m t).names r) ∙ asking (asks sc.version (known_name (tasked m t).names) r) e;
}
asking_at sc t m End e = cc
asking_at sc t m (HeaderCut left) e = cc
asking_at sc t m (ContentCut wanted left) e = cc

transfer_made : (live : List Living) (g : Value → Value) (k : Key) (ks : List Key) (v : Handles) (x : Voucher)
    → transfer_keys g (k ∷ ks) (valued live v) ≡ x
    → transfer_keys g ks (with_key k (mapped g (value_at live k (of_key k v))) (valued live v)) ≡ x
transfer_made live g k ks v x e = ap (λ o. transfer_keys g ks (with_key k (mapped g o) (valued live v)))
    (sym (value_at_key live k v)) ∙ e

-- a key more that was asked
transfer_more : (g : Value → Value) (done : List Key) (k : Key) (map : Voucher)
    → transfer_keys g (done ++ k ∷ []) map
    ≡ with_key k (mapped g (of_key k (transfer_keys g done map))) (transfer_keys g done map)
transfer_more g [] k map = refl
transfer_more g (d ∷ done) k map = transfer_more g done k (with_key d (mapped g (of_key d map)) map)

transfer_done : (live : List Living) (g : Value → Value) (all : List Key) (k : Key) (ks : List Key) (v : Handles)
    (voucher : Voucher) → WasTransferred g all voucher (k ∷ ks) (valued live v)
    → WasTransferred g all voucher ks (with_key k (mapped g (value_at live k (of_key k v))) (valued live v))
transfer_done live g all k ks v voucher (done, split, e) = (
  done ++ k ∷ [],
  append_assoc done (k ∷ []) ks ∙ split,
  ap (λ o. with_key k (mapped g o) (valued live v)) (sym (value_at_key live k v))
      ∙ (ap (λ (x : Voucher). with_key k (mapped g (of_key k x)) x) e ∙ sym (transfer_more g done k voucher)),
)

some_asked : (x y : Asked) → Some x ≡ Some y → x ≡ y
some_asked x y h = cc

send_goes : (sc : Scenario) (t : ℕ) (m : Machine) (f : Frame) (v : Handles) (to : ℕ) (moving : Bool) (name id : ℕ)
    (ks : List Key) (a : Asked) → f.keys ≡ ks
    → FormsSend sc (seen_names m.live (tasked m t).names) t to name ks (valued m.live v)
    → asked_transfer m.live (preprocessed t) ks v ≡ Some a → GoesOn sc t m f v (calls.Send to moving name id) a.key a.reply
send_goes sc t m f v to moving name id [] a e forms h = cc
send_goes sc t m f v to moving name id (k ∷ ks) a e forms h =
    subst (λ (x : Asked). GoesOn sc t m f v (calls.Send to moving name id) x.key x.reply) (some_asked _ a h)
    (subst (λ (gs : List Key). FormsSend sc (seen_names m.live (tasked m t).names) t to name (tail_keys gs)
    (with_key k (mapped (preprocessed t) (value_at m.live k (of_key k v))) (valued m.live v))) (sym e)
    (record {
      to_task = forms.to_task;
      is_named = forms.is_named;
      voucher = forms.voucher;
      known = forms.known;
      made = transfer_made m.live (preprocessed t) k ks v (before t forms.voucher) forms.made;
      evaluated = transfer_done m.live (preprocessed t) sent_keys k ks v forms.voucher forms.evaluated;
      asked = λ _. forms.asked refl;
      keys_managed = forms.keys_managed.1;
    }))

recv_goes : (sc : Scenario) (t : ℕ) (m : Machine) (f : Frame) (v : Handles) (ks : List Key) (a : Asked) → f.keys ≡ ks
    → FormsRecv sc (member_of m.live (tasked m t)).queue t ks (valued m.live v)
    → asked_transfer m.live (received_value sc t) ks v ≡ Some a → GoesOn sc t m f v calls.Recv a.key a.reply
recv_goes sc t m f v [] a e forms h = cc
recv_goes sc t m f v (k ∷ ks) a e forms h =
    subst (λ (x : Asked). GoesOn sc t m f v calls.Recv x.key x.reply) (some_asked _ a h)
    (subst (λ (gs : List Key). FormsRecv sc (member_of m.live (tasked m t)).queue t (tail_keys gs)
    (with_key k (mapped (received_value sc t) (value_at m.live k (of_key k v))) (valued m.live v))) (sym e)
    (record {
      voucher = forms.voucher;
      first = forms.first;
      made = transfer_made m.live (received_value sc t) k ks v
          (after sc t forms.voucher) forms.made;
      evaluated = transfer_done m.live (received_value sc t) received_keys k ks v forms.voucher forms.evaluated;
      keys_managed = forms.keys_managed.1;
    }))

-- what is asked, and what its answer does
pub asked_goes : (sc : Scenario) (t : ℕ) (m : Machine) (f : Frame) (v : Handles) (call : Call) (a : Asked)
    → Calling sc t m f call
    → Forms sc (member_of m.live (tasked m t)) t call f.at_byte f.keys (valued m.live v)
    → call_next sc.version (tasked m t).names f.at_byte f.keys (Some call) ≡ Some kinds.Make
    → asked_by sc m t f v call ≡ Some a → GoesOn sc t m f v call a.key a.reply
asked_goes sc t m f v (calls.Create bytes) a c forms next h = by_asking
    (asking_at sc t m (first_of (drop f.at_byte bytes)) (some_kind _ kinds.Make next))
  where
    by_asking : Asking sc t m (first_of (drop f.at_byte bytes)) → GoesOn sc t m f v (calls.Create bytes) a.key a.reply
    by_asking k =
        create_answer sc t m f v bytes a.key a.reply c forms
        (subst (λ (first : First). CreateGoes sc.version (seen_names m.live (tasked m t).names) t bytes f.at_byte f.keys
        (valued m.live v) first a.key a.reply) (sym k.is)
        (asked_forms sc.version m.live (tasked m t).names t bytes f.at_byte f.keys v k.recipe k.rest a forms k.is
        k.it_asks
        (ap (asked_first sc.version m.live (tasked m t).names t f.keys v) (sym k.is) ∙ h)))
asked_goes sc t m f v (calls.Send to moving name id) a c forms next h = send_goes sc t m f v to moving name id f.keys
    a refl forms h
asked_goes sc t m f v calls.Recv a c forms next h = recv_goes sc t m f v f.keys a refl forms h
asked_goes sc t m f v (calls.GiveUp name) a c forms next h = absurd forms
asked_goes sc t m f v (calls.Extract name key) a c forms next h = absurd forms
asked_goes sc t m f v (calls.Recipes name) a c forms next h = absurd forms
asked_goes sc t m f v (calls.Extern name adding n) a c forms next h = absurd forms
asked_goes sc t m f v (calls.Charge name n) a c forms next h = absurd forms
asked_goes sc t m f v calls.Ledger a c forms next h = absurd forms
asked_goes sc t m f v calls.Assertions a c forms next h = absurd forms
asked_goes sc t m f v calls.Live a c forms next h = absurd forms
asked_goes sc t m f v calls.Exit a c forms next h = absurd forms

keys_there : (b : Bool) → (if b then Some kinds.Place else Some kinds.Make) ≡ Some kinds.Make → b ≡ false
keys_there true e = cc
keys_there false e = refl

-- what is asked is at a managed key
head_managed : (version : ℕ) (ks : List Key) (k : Key) → AllAmong (managed version) ks
    → head_key (keys_left version ks) ≡ Some k → key_of version (number_of k) ≡ Some k
head_managed version [] k h e =
    subst (λ (g : Key). key_of version (number_of g) ≡ Some g) (some_eq keys.Importance k e) refl
head_managed version (g ∷ ks) k h e = subst (λ (j : Key). key_of version (number_of j) ≡ Some j) (some_eq g k e) h.0

record_managed : (version : ℕ) (live : List Living) (names : List Named) (t : ℕ) (v : Handles) (r : Recipe)
    (o : Option Key) (a : Asked) → ((k : Key) → o ≡ Some k → key_of version (number_of k) ≡ Some k)
    → asked_record live names t v r o ≡ Some a → key_of version (number_of a.key) ≡ Some a.key
record_managed version live names t v r None a h e = cc
record_managed version live names t v r (Some k) a h e =
    subst (λ (x : Asked). key_of version (number_of x.key) ≡ Some x.key) (some_eq _ a e) (h k refl)

key_managed : (version : ℕ) (b : Bool) (ks : List Key) (n : ℕ) → AllAmong (managed version) ks → (k : Key)
    → (if b then head_key (keys_left version ks) else key_of version n) ≡ Some k
    → key_of version (number_of k) ≡ Some k
key_managed version true ks n h k e = head_managed version ks k h e
key_managed version false ks n h k e = ap (key_of version) (sym (among_number (managed version) n k e)) ∙ e

first_managed : (version : ℕ) (live : List Living) (names : List Named) (t : ℕ) (ks : List Key) (v : Handles)
    (first : First) (a : Asked) → AllAmong (managed version) ks
    → asked_first version live names t ks v first ≡ Some a → key_of version (number_of a.key) ≡ Some a.key
first_managed version live names t ks v (One r rest) a h e =
    record_managed version live names t v r _ a (key_managed version (r.key == ALL_KEYS) ks r.key h) e
first_managed version live names t ks v End a h e = cc
first_managed version live names t ks v (HeaderCut left) a h e = cc
first_managed version live names t ks v (ContentCut wanted left) a h e = cc

transfer_managed : (version : ℕ) (live : List Living) (g : Value → Value) (ks : List Key) (v : Handles) (a : Asked)
    → AllAmong (managed version) ks → asked_transfer live g ks v ≡ Some a
    → key_of version (number_of a.key) ≡ Some a.key
transfer_managed version live g [] v a h e = cc
transfer_managed version live g (k ∷ ks) v a h e =
    subst (λ (x : Asked). key_of version (number_of x.key) ≡ Some x.key) (some_eq _ a e) h.0

pub asked_managed : (sc : Scenario) (t : ℕ) (m : Machine) (f : Frame) (v : Handles) (call : Call) (a : Asked)
    → Forms sc (member_of m.live (tasked m t)) t call f.at_byte f.keys (valued m.live v)
    → asked_by sc m t f v call ≡ Some a → key_of sc.version (number_of a.key) ≡ Some a.key
asked_managed sc t m f v (calls.Create bytes) a forms h =
    first_managed sc.version m.live (tasked m t).names t f.keys v (first_of (drop f.at_byte bytes)) a
    forms.keys_managed h
asked_managed sc t m f v (calls.Send to moving name id) a forms h =
    transfer_managed sc.version m.live (preprocessed t) f.keys v a forms.keys_managed h
asked_managed sc t m f v calls.Recv a forms h =
    transfer_managed sc.version m.live (received_value sc t) f.keys v a forms.keys_managed h
asked_managed sc t m f v (calls.GiveUp name) a forms h = absurd forms
asked_managed sc t m f v (calls.Extract name key) a forms h = absurd forms
asked_managed sc t m f v (calls.Recipes name) a forms h = absurd forms
asked_managed sc t m f v (calls.Extern name adding n) a forms h = absurd forms
asked_managed sc t m f v (calls.Charge name n) a forms h = absurd forms
asked_managed sc t m f v calls.Ledger a forms h = absurd forms
asked_managed sc t m f v calls.Assertions a forms h = absurd forms
asked_managed sc t m f v calls.Live a forms h = absurd forms
asked_managed sc t m f v calls.Exit a forms h = absurd forms

-- a Make may want memory
pub make_wants : (sc : Scenario) (t : ℕ) (m : Machine) (f : Frame) (v : Handles) (call : Call) → Calling sc t m f call
    → Forms sc (member_of m.live (tasked m t)) t call f.at_byte f.keys (valued m.live v)
    → call_next sc.version (tasked m t).names f.at_byte f.keys (Some call) ≡ Some kinds.Make
    → Step sc t m (refuse m t f call (KERN_RESOURCE_SHORTAGE))
make_wants sc t m f v (calls.Create bytes) c forms next = by_asking
    (asking_at sc t m (first_of (drop f.at_byte bytes)) (some_kind _ kinds.Make next))
  where
    by_asking : Asking sc t m (first_of (drop f.at_byte bytes)) → Step sc t m
        (refuse m t f (calls.Create bytes) (KERN_RESOURCE_SHORTAGE))
    by_asking k =
        create_wants sc t m f bytes c forms.some forms.few
        (reaches_whole sc.version (seen_names m.live (tasked m t).names) t bytes f.at_byte f.keys (valued m.live v)
        k.recipe
        k.rest forms k.is k.it_asks)
make_wants sc t m f v (calls.Send to moving name id) c forms next =
    send_wants sc t m f to moving name id forms.voucher c forms.to_task forms.is_named forms.known
    (ap (λ b. b || not (is_full sc (seen m) to)) (forms.asked (keys_there (is_empty f.keys) next)))
make_wants sc t m f v calls.Recv c forms next = recv_wants sc t m f forms.voucher c forms.first
make_wants sc t m f v (calls.GiveUp name) c forms next = absurd forms
make_wants sc t m f v (calls.Extract name key) c forms next = absurd forms
make_wants sc t m f v (calls.Recipes name) c forms next = absurd forms
make_wants sc t m f v (calls.Extern name adding n) c forms next = absurd forms
make_wants sc t m f v (calls.Charge name n) c forms next = absurd forms
make_wants sc t m f v calls.Ledger c forms next = absurd forms
make_wants sc t m f v calls.Assertions c forms next = absurd forms
make_wants sc t m f v calls.Live c forms next = absurd forms
make_wants sc t m f v calls.Exit c forms next = absurd forms
