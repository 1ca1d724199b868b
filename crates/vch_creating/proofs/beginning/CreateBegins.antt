-- A create begins: it is answered at once, or it has a frame.
use Rattle.std.proofs.Common.{◌≡◌, ℕ, ◌==◌, ◌||◌, nat_lt, ◌≤◌, Bool, true, false, List, [], refl, sym, ap, ◌∙◌, subst, arith, length, Some}
use Rattle.std.proofs.lemmas.Grind.{common_steps}
use Rattle.vch_base.specs.declared.codes.TheConstants.{MIG_ARRAY_TOO_LARGE}
use Rattle.vch_base.specs.declared.kind.Kind.TheVariants as kinds
use Rattle.vch_base.specs.declared.limits.TheConstants.{ARRAY_BYTES}
use Rattle.vch_model.specs.Lines.{is_task}
use Rattle.vch_model.specs.Replies.{refused}
use Rattle.vch_model.specs.declared.call.Call.{Call}
use Rattle.vch_model.specs.declared.call.Call.TheVariants as calls
use Rattle.vch_model.specs.declared.call.Word.TheVariants as words
use Rattle.vch_model.specs.declared.entry.Reply.TheVariants as replies
use Rattle.vch_machine.specs.Beginning.{begin_call, store_reply}
use Rattle.vch_machine.specs.Frames.{replied}
use Rattle.vch_machine.specs.State.{Machine}
use Rattle.vch_parts.specs.declared.frames.Working.{Working}
use Rattle.vch_parts.specs.declared.parts.Parts.{Parts}
use Rattle.vch_parts.specs.Framed.{with_frame_of, with_begun_of}
use Rattle.vch_parts.specs.Reached.{plain_of, Reached, MayFollow}
use Rattle.vch_parts.specs.Stands.{StandsFor}
use Rattle.vch_moves.specs.Steps.{machine_begun, opened, fresh_frame}
use Rattle.vch_moves.proofs.CallerLemmas.{create_empty, create_long, create_framed, creates_begin, opened_is}
use Rattle.vch_replies.proofs.CallerLemmas.{create_none, create_many}
use Rattle.vch_answers.specs.Answered.{Answers}
use Rattle.vch_answers.proofs.CallerLemmas.{Moment, begin_follows, answer_room, answer_follows}
use Rattle.vch_creating.specs.Beginnings.{BeginsCreate, is_answered, create_answer}

none_long : (n : ℕ) → (n == 0) ≡ true → n ≡ 0
none_long n e = grind (e, arith, common_steps)

first_of_both : (a b : Bool) → (a || b) ≡ true → b ≡ false → a ≡ true
first_of_both true b e f = refl
first_of_both false true e f = absurd (cc)
first_of_both false false e f = absurd (cc)

neither : (a b : Bool) → (a || b) ≡ false → (a ≡ false) × (b ≡ false)
neither true b e = absurd (cc)
neither false true e = absurd (cc)
neither false false e = (refl, refl)

answer_long : (n : ℕ) → nat_lt ARRAY_BYTES n ≡ true → create_answer n ≡ refused MIG_ARRAY_TOO_LARGE
answer_long n q = rw q refl

answer_short : (n : ℕ) → nat_lt ARRAY_BYTES n ≡ false → create_answer n ≡ replies.Created 0
answer_short n q = rw q refl

module _ (p : Parts) (t n : ℕ) (reached : Reached p) (task : is_task p.scenario t ≡ true) (b : BeginsCreate n p t) where
  abbrev call : Call
  call = calls.Create b.bytes

  module _ (answered : is_answered n ≡ true) where
    create_told : (m : Machine) → Moment p t call m
        → begin_call p.scenario false (machine_begun m t) t call (store_reply p.scenario m t call) ≡ replied (machine_begun m t) t call (create_answer n)
    create_told m x = by (nat_lt ARRAY_BYTES (length b.bytes)) refl
      where
        by : (z : Bool) → nat_lt ARRAY_BYTES (length b.bytes) ≡ z
            → begin_call p.scenario false (machine_begun m t) t call (store_reply p.scenario m t call) ≡ replied (machine_begun m t) t call (create_answer n)
        by true e =
            create_long p.scenario false (machine_begun m t) t (store_reply p.scenario m t call) b.bytes e
            ∙ ap (replied (machine_begun m t) t call) (create_many p.scenario m t b.bytes e ∙ sym (answer_long n (ap (nat_lt ARRAY_BYTES) (sym b.long) ∙ e)))
        by false e =
            let none : (length b.bytes == 0) ≡ true = ap (λ k. k == 0) b.long ∙ first_of_both (n == 0) (nat_lt ARRAY_BYTES n) answered (ap (nat_lt ARRAY_BYTES) (sym b.long) ∙ e) in
            create_empty p.scenario false (machine_begun m t) t (store_reply p.scenario m t call) b.bytes none
            ∙ ap (replied (machine_begun m t) t call) (create_none p.scenario m t b.bytes (none_long (length b.bytes) none) ∙ sym (answer_short n (ap (nat_lt ARRAY_BYTES) (sym b.long) ∙ e)))

    pub create_room : 1 ≤ p.history.spare
    create_room = answer_room p t call reached task b.begins false (create_answer n) create_told

    pub create_answered : (new : Parts) → Answers t words.Create (create_answer n) p new → MayFollow kinds.Begin t p new
    create_answered new done = answer_follows p t call reached task b.begins false (create_answer n) create_told new words.Create refl refl done

  pub create_opened : is_answered n ≡ false → (fs2 : List Working) → fs2 ≡ with_frame_of (with_begun_of p.frames t) t (Some (fresh_frame [] [])) → MayFollow kinds.Begin t p (record p { frames = fs2 })
  create_opened other fs2 put =
      let z = neither (n == 0) (nat_lt ARRAY_BYTES n) other in
      begin_follows p t call reached task b.begins (record p { frames = fs2 }) false (opened (plain_of p) t (fresh_frame [] [])) refl (opened_is p t reached task fs2 (fresh_frame [] []) put) (λ m x.
      subst (StandsFor p.scenario (opened (plain_of p) t (fresh_frame [] [])))
      (sym (create_framed p.scenario false (machine_begun m t) t (store_reply p.scenario m t call) b.bytes (ap (λ k. k == 0) b.long ∙ z.0) (ap (nat_lt ARRAY_BYTES) b.long ∙ z.1)))
      (creates_begin p.scenario (plain_of p) m t x.free))
