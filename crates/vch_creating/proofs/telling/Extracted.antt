-- What an extract tells of the value that a named voucher has at a key.
use Rattle.std.proofs.Common.{◌≡◌, ℕ, Bool, true, false, List, refl, sym, ap, ◌∙◌, Option, Some, None, Result, Ok, Err}
use Rattle.std.specs.Prelude.{IsSome, IfSome, OnErr}
use Rattle.std.specs.Option.{option_map}
use Rattle.vch_base.specs.Contents.{content_of}
use Rattle.vch_base.specs.declared.codes.TheConstants.{KERN_INVALID_ARGUMENT, KERN_INVALID_CAPABILITY, KERN_RESOURCE_SHORTAGE}
use Rattle.vch_base.specs.declared.fault.Code.{Code}
use Rattle.vch_base.specs.declared.key.Key.{Key}
use Rattle.vch_base.specs.Keyed.{Keyed, of_key}
use Rattle.vch_base.specs.Keys.{key_of}
use Rattle.vch_base.specs.Managers.{live_at}
use Rattle.vch_entry.specs.Entries.{entry_at}
use Rattle.vch_model.specs.Legal.{has_code}
use Rattle.vch_model.specs.Lines.{is_task}
use Rattle.vch_model.specs.Replies.{refused, extracted}
use Rattle.vch_model.specs.Replies as models
use Rattle.vch_model.specs.declared.call.Call.{Call}
use Rattle.vch_model.specs.declared.call.Call.TheVariants as calls
use Rattle.vch_model.specs.declared.entry.Reply.{Reply}
use Rattle.vch_model.specs.declared.entry.Reply.TheVariants as replies
use Rattle.vch_machine.specs.Beginning.{begin_call, store_reply, or_want}
use Rattle.vch_machine.specs.Frames.{replied}
use Rattle.vch_machine.specs.State.{Machine}
use Rattle.vch_frame.specs.Indices.{index_of}
use Rattle.vch_values.specs.Parts.{KeyParts}
use Rattle.vch_vouchers.specs.Desks.{Voucher, desk, voucher_of}
use Rattle.vch_parts.specs.declared.parts.Parts.{Parts}
use Rattle.vch_parts.specs.Reached.{plain_of, Reached}
use Rattle.vch_moves.specs.Steps.{machine_begun}
use Rattle.vch_replies.specs.Told.{handle_in, values_of, values_by}
use Rattle.vch_replies.proofs.CallerLemmas.{begins, extract_reply}
use Rattle.vch_answers.proofs.CallerLemmas.{Moment, named_is, entry_named, live_voucher}
use Rattle.vch_creating.specs.Extracting.{IsTellable}

-- The reply.

tellable : (x : Keyed KeyParts) (v : Voucher) (k : Key) → ((i : ℕ) → index_of k v ≡ Some i → IsSome (entry_at (of_key k x).entries.slots i))
    → ((h : ℕ) → handle_in (of_key k x) (index_of k v) ≡ Some h → IsSome (live_at (of_key k x).kept.slots h)) → IsTellable x v k
tellable x v k f g = record {
  there = there (index_of k v) f;
  live = live (handle_in (of_key k x) (index_of k v)) g;
}
  where
    there : (o : Option ℕ) → ((i : ℕ) → o ≡ Some i → IsSome (entry_at (of_key k x).entries.slots i)) → IfSome o (λ i. IsSome (entry_at (of_key k x).entries.slots i))
    there None f = tt
    there (Some i) f = f i refl

    live : (o : Option ℕ) → ((h : ℕ) → o ≡ Some h → IsSome (live_at (of_key k x).kept.slots h)) → IfSome o (λ h. IsSome (live_at (of_key k x).kept.slots h))
    live None f = tt
    live (Some h) f = f h refl

module _ (p : Parts) (t : ℕ) (reached : Reached p) (task : is_task p.scenario t ≡ true) (name : ℕ) where
  pub is_tellable : (v : Voucher) (k : Key) → voucher_of (desk p.vouchers t).names name ≡ Some v → IsTellable p.values v k
  is_tellable v k e = tellable p.values v k (λ i f. entry_named p t reached task name k v i e f) (λ h f. live_voucher p t reached task name k v h e f)

  values_are : (o : Option Voucher) → voucher_of (desk p.vouchers t).names name ≡ o → values_by (plain_of p) t name ≡ option_map (values_of p.values) o
  values_are o e = ap (option_map (values_of p.values)) (named_is p t reached task name o e)

  module _ (key : ℕ) where
    abbrev told : Reply
    told = extracted p.scenario.version key (values_by (plain_of p) t name)

    pub none_told : (code : Code) → code.number ≡ KERN_INVALID_CAPABILITY → voucher_of (desk p.vouchers t).names name ≡ None → replies.Refused code ≡ told
    none_told code is e = ap refused is ∙ sym (ap (extracted p.scenario.version key) (values_are None e))

    by_key : (v : Voucher) (o : Option Key) (r : Reply) → r ≡ models.content_at o (values_of p.values v) → key_of p.scenario.version key ≡ o → voucher_of (desk p.vouchers t).names name ≡ Some v → r ≡ told
    by_key v o r q e f = q ∙ sym (ap (extracted p.scenario.version key) (values_are (Some v) f) ∙ ap (λ k. models.content_at k (values_of p.values v)) e)

    pub no_key_told : (v : Voucher) (code : Code) → code.number ≡ KERN_INVALID_ARGUMENT → voucher_of (desk p.vouchers t).names name ≡ Some v → key_of p.scenario.version key ≡ None
        → replies.Refused code ≡ told
    no_key_told v code is f e = by_key v None _ (ap refused is) e f

    pub key_told : (v : Voucher) (k : Key) (bytes : List ℕ) → voucher_of (desk p.vouchers t).names name ≡ Some v → key_of p.scenario.version key ≡ Some k
        → bytes ≡ content_of (of_key k (values_of p.values v)) → replies.Content bytes ≡ told
    key_told v k bytes f e q = by_key v (Some k) _ (ap replies.Content q) e f

    pub code_told : {A B : Type 0} (result : Result A B) (v : Voucher) (k : Key) → voucher_of (desk p.vouchers t).names name ≡ Some v → key_of p.scenario.version key ≡ Some k → OnErr result (has_code told ≡ false)
    code_told (Ok a) v k f e = tt
    code_told (Err a) v k f e = ap has_code (sym (key_told v k _ f e refl))

-- The event.

wanting : (reply : Reply) → has_code reply ≡ false → or_want true reply ≡ refused KERN_RESOURCE_SHORTAGE
wanting reply e = rw e refl

module _ (p : Parts) (t : ℕ) (reached : Reached p) (task : is_task p.scenario t ≡ true) (name key : ℕ) where
  abbrev call : Call
  call = calls.Extract name key

  replies_here : (want : Bool) (reply : Reply) → or_want want (extracted p.scenario.version key (values_by (plain_of p) t name)) ≡ reply
      → (m : Machine) → Moment p t call m
      → begin_call p.scenario want (machine_begun m t) t call (store_reply p.scenario m t call) ≡ replied (machine_begun m t) t call reply
  replies_here want reply e m x = ap (λ r. replied (machine_begun m t) t call (or_want want r)) (extract_reply p.scenario (plain_of p) m t (begins p.scenario (plain_of p) m t x.state task) name key)
      ∙ ap (replied (machine_begun m t) t call) e

  pub told_here : (reply : Reply) → reply ≡ extracted p.scenario.version key (values_by (plain_of p) t name) → (m : Machine) → Moment p t call m
      → begin_call p.scenario false (machine_begun m t) t call (store_reply p.scenario m t call) ≡ replied (machine_begun m t) t call reply
  told_here reply e = replies_here false reply (sym e)

  pub wants_here : has_code (extracted p.scenario.version key (values_by (plain_of p) t name)) ≡ false → (m : Machine) → Moment p t call m
      → begin_call p.scenario true (machine_begun m t) t call (store_reply p.scenario m t call) ≡ replied (machine_begun m t) t call (refused KERN_RESOURCE_SHORTAGE)
  wants_here e = replies_here true (refused KERN_RESOURCE_SHORTAGE) (wanting (extracted p.scenario.version key (values_by (plain_of p) t name)) e)
