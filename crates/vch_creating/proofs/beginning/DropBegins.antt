-- A drop begins, and is answered.
use Rattle.std.proofs.Common.{◌≡◌, ℕ, ◌+◌, ◌≤◌, Bool, true, false, if◌then◌else◌, List, [], ◌∷◌, ◌++◌, refl, sym, ap, ◌∙◌, Option, Some, None}
use Rattle.std.specs.Prelude.{is_some}
use Rattle.std.specs.Option.{option_map}
use Rattle.vch_base.specs.declared.codes.TheConstants.{KERN_INVALID_NAME}
use Rattle.vch_base.specs.declared.kind.Kind.TheVariants as kinds
use Rattle.vch_base.specs.Keyed.{Keyed}
use Rattle.vch_base.specs.Tasks.{set_task}
use Rattle.vch_model.specs.Lines.{is_task}
use Rattle.vch_model.specs.Replies.{refused, given_up}
use Rattle.vch_model.specs.Rows.{Entries}
use Rattle.vch_model.specs.declared.call.Call.{Call}
use Rattle.vch_model.specs.declared.call.Call.TheVariants as calls
use Rattle.vch_model.specs.declared.call.Word.TheVariants as words
use Rattle.vch_model.specs.declared.entry.Entry.TheVariants as entries
use Rattle.vch_model.specs.declared.entry.Reply.{Reply}
use Rattle.vch_model.specs.declared.entry.Reply.TheVariants as replies
use Rattle.vch_machine.specs.Beginning as machine
use Rattle.vch_machine.specs.Beginning.{store_reply}
use Rattle.vch_machine.specs.Naming.{handles_of}
use Rattle.vch_machine.specs.State.{Machine, tasked}
use Rattle.vch_values.specs.Parts.{KeyParts}
use Rattle.vch_vouchers.specs.Desks as desks
use Rattle.vch_vouchers.specs.Desks.{Desk, desk, one_less, voucher_of}
use Rattle.vch_parts.specs.declared.frames.Working.{Working}
use Rattle.vch_parts.specs.declared.parts.Parts.{Parts}
use Rattle.vch_parts.specs.Framed.{begun_of, with_frame_of, with_begun_of}
use Rattle.vch_parts.specs.Plain.{Indices, Part, part_of, closed}
use Rattle.vch_parts.specs.Reached.{plain_of, Reached, MayFollow}
use Rattle.vch_parts.proofs.CallerLemmas.{own_begun}
use Rattle.vch_moves.specs.Desks.{AllApart, desk_of, option_items, orphaned}
use Rattle.vch_moves.specs.Steps.{machine_begun, dropped, leaving_frame, less_named}
use Rattle.vch_moves.proofs.CallerLemmas.{ties_of, from_state, may_follow, begin_next, begin_room, drop_at_once, own_desk, desks_then, stepped_begun}
use Rattle.vch_replies.specs.Told.{values_of}
use Rattle.vch_replies.proofs.CallerLemmas.{begins, drop_reply}
use Rattle.vch_answers.specs.Answered.{Begins}
use Rattle.vch_answers.proofs.CallerLemmas.{Moment, moment}

-- the answer to a drop of a name that is there, or is not
abbrev pub drop_answer : Bool → Reply
drop_answer known = if known then replies.Done else refused KERN_INVALID_NAME

given_is : (x : Keyed KeyParts) (o : Option Indices) (known : Bool) → known ≡ is_some o → given_up (option_map (values_of x) o) ≡ drop_answer known
given_is x None known e = rw e refl
given_is x (Some v) known e = rw e refl

module _ (p : Parts) (t : ℕ) (reached : Reached p) (task : is_task p.scenario t ≡ true) (name : ℕ) (here : Begins p t (calls.GiveUp name))
    (known : Bool) (known_is : known ≡ is_some (voucher_of (desk p.vouchers t).names name)) where
  abbrev X : Part
  X = part_of (plain_of p) t

  abbrev call : Call
  call = calls.GiveUp name

  drop_told : (m : Machine) → Moment p t call m → store_reply p.scenario m t call ≡ drop_answer known
  drop_told m x = drop_reply p.scenario (plain_of p) m t (begins p.scenario (plain_of p) m t x.state task) name
      ∙ given_is p.values (voucher_of X.names name) known (known_is ∙ ap (λ (d : Desk). is_some (voucher_of d.names name)) (own_desk p t reached task))

  pub drop_room : 1 ≤ p.history.spare
  drop_room = from_state p _ reached (λ m st.
      let x = moment p t call reached task here m st in
      let ties = ties_of p.scenario (plain_of p) m st in
      begin_room p.scenario (plain_of p) m t x.free.stands ties task false call (drop_answer known) _ x.free (begin_next p.scenario (plain_of p) m t ties task x.free x.waits) x.there
      (ap (λ r. machine.dropped (machine_begun m t) t call r (handles_of (tasked (machine_begun m t) t).names name) name) (drop_told m x)) refl)

  module _ (apart : AllApart p.values) (ds2 : List Desk) (dropped_is : ds2 ≡ set_task p.vouchers t (record (desk p.vouchers t) { names = one_less (desk p.vouchers t).names name }))
      (orphan : Option Indices) (orphan_is : orphan ≡ desks.orphaned ds2 (voucher_of (desk p.vouchers t).names name))
      (fs2 : List Working) (put : fs2 ≡ with_frame_of (with_begun_of p.frames t) t (closed (leaving_frame (option_items orphan))))
      (h2 : Entries) (number : ℕ) (number_is : number ≡ begun_of p.frames t + 1)
      (noted : h2.entries ≡ p.history.entries ++ entries.Call t number words.GiveUp (drop_answer known) ∷ []) (less : h2.spare + 1 ≡ p.history.spare) where
    desks_now : ds2 ≡ set_task p.vouchers t (desk_of (less_named X name))
    desks_now = dropped_is ∙ ap (λ (d : Desk). set_task p.vouchers t (record d { names = one_less d.names name })) (own_desk p t reached task)

    lets_are : option_items orphan ≡ orphaned (set_task (plain_of p).tasks t (less_named X name)) (voucher_of X.names name)
    lets_are = ap option_items (orphan_is ∙ (ap (λ (d : Desk). desks.orphaned ds2 (voucher_of d.names name)) (own_desk p t reached task)
        ∙ ap (λ ds. desks.orphaned ds (voucher_of X.names name)) (sym (desks_then p t reached task (less_named X name) ds2 desks_now))))

    plain : plain_of (record p { vouchers = ds2; frames = fs2; history = h2 }) ≡ dropped (plain_of p) t call (drop_answer known) name
    plain = stepped_begun p t reached task ds2 (less_named X name) desks_now refl fs2
        (closed (leaving_frame (orphaned (set_task (plain_of p).tasks t (less_named X name)) (voucher_of X.names name))))
        (put ∙ ap (λ ls. with_frame_of (with_begun_of p.frames t) t (closed (leaving_frame ls))) lets_are)
        h2 (entries.Call t (X.begun + 1) words.GiveUp (drop_answer known))
        (noted ∙ ap (λ n. p.history.entries ++ entries.Call t n words.GiveUp (drop_answer known) ∷ []) (number_is ∙ ap (λ n. n + 1) (sym (own_begun p t reached task)))) less

    pub drop_follows : MayFollow kinds.Begin t p (record p { vouchers = ds2; frames = fs2; history = h2 })
    drop_follows = may_follow kinds.Begin t p (record p { vouchers = ds2; frames = fs2; history = h2 }) false (dropped (plain_of p) t call (drop_answer known) name) refl plain (λ m st.
        let x = moment p t call reached task here m st in
        let ties = ties_of p.scenario (plain_of p) m st in
        drop_at_once p.scenario (plain_of p) m t ties task x.free (begin_next p.scenario (plain_of p) m t ties task x.free x.waits) false name (drop_answer known) x.there apart (drop_told m x))
