-- From what the code notes to plain data; and a call that is refused as it begins.
use Rattle.std.proofs.Common.{◌≡◌, ℕ, ◌+◌, ◌-◌, ◌<◌, ◌≤◌, true, false, List, [], ◌∷◌, ◌++◌, refl, arith, sym, ap, ◌∙◌, subst, length, ℤ}
use Rattle.vch_base.specs.Keyed.{Keyed}
use Rattle.vch_base.specs.declared.kind.Kind.TheVariants as kinds
use Rattle.vch_model.specs.Lines.{is_task}
use Rattle.vch_model.specs.Replies.{refused}
use Rattle.vch_model.specs.Words.{word_of}
use Rattle.vch_model.specs.declared.call.Call.{Call}
use Rattle.vch_model.specs.declared.call.Word.{Word}
use Rattle.vch_model.specs.declared.entry.Entry.{Entry}
use Rattle.vch_model.specs.declared.entry.Entry.TheVariants as entries
use Rattle.vch_model.specs.declared.entry.Reply.{Reply}
use Rattle.vch_machine.specs.Beginning.{begin_call, store_reply}
use Rattle.vch_machine.specs.Frames.{replied}
use Rattle.vch_machine.specs.State.{Machine}
use Rattle.vch_legal.proofs.CallerLemmas.{refused_uncounted}
use Rattle.vch_values.specs.Parts.{KeyParts}
use Rattle.vch_parts.specs.declared.parts.Parts.{Parts}
use Rattle.vch_parts.specs.Framed.{begun_of}
use Rattle.vch_parts.specs.Plain.{Plain, Part, part_of}
use Rattle.vch_parts.specs.Reached.{plain_of, parts_in, Reached, MayFollow}
use Rattle.vch_parts.specs.Stands.{StandsFor}
use Rattle.vch_parts.proofs.CallerLemmas.{task_inside, own_begun, range}
use Rattle.vch_moves.specs.Steps.{machine_begun, answered_first}
use Rattle.vch_moves.proofs.CallerLemmas.{answers_begin}
use Rattle.vch_answers.specs.Answered.{Begins}
use Rattle.vch_answers.proofs.CallerLemmas.{Moment, begun_few, begun_then, begin_follows, answer_room}
use Rattle.vch_carry.specs.Amounts.{Notes}

plain_is : (x : Plain) (d e : List Part) (f g : List Entry) (i j : ℕ) → d ≡ e → f ≡ g → i ≡ j
    → record x { tasks = d; history = f; spare = i } ≡ record x { tasks = e; history = g; spare = j }
plain_is x d e f g i j p q r = rw (p, q, r) refl

one_less : (a b : ℕ) → a + 1 ≡ b → a ≡ b - 1
one_less a b e = omega (arith, e)

module _ (p : Parts) (t : ℕ) (reached : Reached p) (task : is_task p.scenario t ≡ true) where
  -- parts that differ in their values alone
  module _ (y : Keyed KeyParts) (mid : Parts) (same : mid ≡ record p { values = y }) where
    pub mid_inside : (0 < t) × (t ≤ length mid.frames)
    mid_inside = subst (λ (q : Parts). (0 < t) × (t ≤ length q.frames)) (sym same) (task_inside p t reached task)

    pub mid_few : begun_of mid.frames t < 4294967295
    mid_few = subst (λ (q : Parts). begun_of q.frames t < 4294967295) (sym same) (begun_few p t reached task)

    pub mid_room : 1 ≤ p.history.spare → 1 ≤ mid.history.spare
    mid_room room = subst (λ (q : Parts). 1 ≤ q.history.spare) (sym same) room

    module _ (word : Word) (reply : Reply) (new : Parts) (notes : Notes t word reply mid new) where
      notes_here : Notes t word reply (record p { values = y }) new
      notes_here = subst (λ q. Notes t word reply q new) same notes

      pub noted_scenario : new.scenario ≡ p.scenario
      noted_scenario = ap (λ (q : Parts). q.scenario) notes_here.others

      pub noted_plain : (call : Call) → word_of call ≡ word → plain_of new ≡ record (answered_first (plain_of p) t call reply) { keyed = y }
      noted_plain call is = ap plain_of notes_here.others
          ∙ plain_is (record (plain_of p) { keyed = y }) _ _ _ _ _ _
          (let n = range p t reached task in ap (parts_in p.vouchers) notes_here.frames ∙ begun_then p.vouchers p.frames t n.0 n.1)
          (notes_here.entries ∙ ap (λ n. p.history.entries ++ entries.Call t (n + 1) word reply ∷ []) (sym (own_begun p t reached task))
          ∙ ap (λ w. p.history.entries ++ entries.Call t ((part_of (plain_of p) t).begun + 1) w reply ∷ []) (sym is))
          (one_less _ _ notes_here.spare)

  module _ (call : Call) (begins : Begins p t call) (code : ℤ)
      (replies : (m : Machine) → Moment p t call m → begin_call p.scenario false (machine_begun m t) t call (store_reply p.scenario m t call) ≡ replied (machine_begun m t) t call (refused code)) where
    refused_stands : (m : Machine) → Moment p t call m
        → StandsFor p.scenario (answered_first (plain_of p) t call (refused code)) (begin_call p.scenario false (machine_begun m t) t call (store_reply p.scenario m t call))
    refused_stands m x = subst (StandsFor p.scenario (answered_first (plain_of p) t call (refused code))) (sym (replies m x))
        (answers_begin p.scenario (plain_of p) m t call (refused code) x.free
        (record { uncounted = refused_uncounted p.scenario m.past t ((part_of (plain_of p) t).begun + 1) (word_of call) (refused code) refl; room = answer_room p t call reached task begins false (refused code) replies }))

    pub refused_follows : (new : Parts) (d : Plain) → new.scenario ≡ p.scenario → plain_of new ≡ d → d ≡ answered_first (plain_of p) t call (refused code) → MayFollow kinds.Begin t p new
    refused_follows new d same plain is = begin_follows p t call reached task begins new false (answered_first (plain_of p) t call (refused code)) same (plain ∙ is) refused_stands
