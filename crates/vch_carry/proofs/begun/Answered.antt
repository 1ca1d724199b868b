-- A call is answered as it begins.
use Rattle.std.proofs.Common.{◌≡◌, ℕ, ◌+◌, ◌-◌, ◌≤◌, true, false, List, [], ◌∷◌, ◌++◌, arith, refl, sym, ap, ◌∙◌, subst, Some, None}
use Rattle.vch_base.specs.declared.kind.Kind.TheVariants as kinds
use Rattle.vch_model.specs.Lines.{is_task}
use Rattle.vch_model.specs.Rows.{Entries}
use Rattle.vch_model.specs.Words.{word_of}
use Rattle.vch_model.specs.declared.call.Call.{Call}
use Rattle.vch_model.specs.declared.entry.Entry.{Entry}
use Rattle.vch_model.specs.declared.entry.Entry.TheVariants as entries
use Rattle.vch_model.specs.declared.entry.Reply.{Reply}
use Rattle.vch_machine.specs.Beginning.{begin_call, store_reply}
use Rattle.vch_machine.specs.Frames as frames
use Rattle.vch_machine.specs.Next.{nth_call}
use Rattle.vch_machine.specs.State.{Machine}
use Rattle.vch_legal.specs.ValueAmounts.{is_counting, IsUncounted}
use Rattle.vch_legal.proofs.CallerLemmas.{call_uncounted}
use Rattle.vch_parts.specs.declared.frames.Working.{Working}
use Rattle.vch_parts.specs.declared.parts.Parts.{Parts}
use Rattle.vch_parts.specs.Framed.{frame_of, begun_of, with_begun_of}
use Rattle.vch_parts.specs.Plain.{Part, part_of}
use Rattle.vch_parts.specs.Reached.{plain_of, Reached, IsState, IsNext, MayFollow}
use Rattle.vch_parts.proofs.CallerLemmas.{own_begun}
use Rattle.vch_moves.specs.Steps.{answered_first, machine_begun}
use Rattle.vch_moves.proofs.CallerLemmas.{answered_begun, may_follow}
use Rattle.vch_carry.proofs.glue.Begun.{begun, some_begun, frames_begun}
use Rattle.vch_carry.proofs.glue.Runs.{room_by}

less_one : (a b : ℕ) → a + 1 ≡ b → a ≡ b - 1
less_one a b e = omega (arith, e)

module _ (p : Parts) (t : ℕ) (r : Reached p) (task : is_task p.scenario t ≡ true) (next : IsNext p t (Some kinds.Begin)) (free : frame_of p.frames t ≡ None)
    (call : Call) (is : nth_call p.scenario t (begun_of p.frames t + 1) ≡ Some call) where
  abbrev X : Part
  X = part_of (plain_of p) t

  -- the answer adds up to nothing
  pub uncounted_here : is_counting call ≡ false → (past : List Entry) (reply : Reply) → IsUncounted p.scenario past (entries.Call t (X.begun + 1) (word_of call) reply)
  uncounted_here counts past reply = call_uncounted p.scenario past t (X.begun + 1) (word_of call) reply call (ap (λ n. nth_call p.scenario t (n + 1)) (own_begun p t r task) ∙ is) counts

  pub entry_is : (h2 : Entries) (reply : Reply) → h2.entries ≡ p.history.entries ++ entries.Call t (begun_of p.frames t + 1) (word_of call) reply ∷ []
      → h2.entries ≡ p.history.entries ++ entries.Call t (X.begun + 1) (word_of call) reply ∷ []
  entry_is h2 reply e = e ∙ ap (λ n. p.history.entries ++ entries.Call t (n + 1) (word_of call) reply ∷ []) (sym (own_begun p t r task))

  plain_is : (a b : List Part) (d e : List Entry) (i j : ℕ) → a ≡ b → d ≡ e → i ≡ j → record (plain_of p) { tasks = a; history = d; spare = i } ≡ record (plain_of p) { tasks = b; history = e; spare = j }
  plain_is a b d e i j q r s = rw (q, r, s) refl

  module _ (counts : is_counting call ≡ false) (reply : Reply)
      (replies : (m : Machine) → IsState p.scenario (plain_of p) m → begin_call p.scenario false (machine_begun m t) t call (store_reply p.scenario m t call) ≡ frames.replied (machine_begun m t) t call reply) where
    pub answer_room : 1 ≤ p.history.spare
    answer_room = some_begun p t r task next free call is _ (λ m b.
        room_by p.scenario (plain_of p) m (frames.replied (machine_begun m t) t call reply) t false _ b.state (b.event false ∙ ap Some (replies m b.state)) refl refl)

    pub answered_follows : (fs2 : List Working) → fs2 ≡ with_begun_of p.frames t → (h2 : Entries) → h2.entries ≡ p.history.entries ++ entries.Call t (begun_of p.frames t + 1) (word_of call) reply ∷ [] → h2.spare + 1 ≡ p.history.spare
        → MayFollow kinds.Begin t p (record p { frames = fs2; history = h2 })
    answered_follows fs2 counted h2 noted less = may_follow kinds.Begin t p (record p { frames = fs2; history = h2 }) false (answered_first (plain_of p) t call reply) refl
        (plain_is _ _ _ _ _ _ (frames_begun p t r task fs2 counted) (entry_is h2 reply noted) (less_one h2.spare p.history.spare less))
        (λ m st. let b = begun p t r task next free call is m st in let a = b.at_rest in (
          frames.replied (machine_begun m t) t call reply,
          b.event false ∙ ap Some (replies m st),
          b.next,
          answered_begun p.scenario (plain_of p) m t a.positive a.inside a.stands a.own a.task call reply (uncounted_here counts m.past reply) answer_room,
        ))

    pub answered_then : (new : Parts) → new ≡ record p { frames = with_begun_of p.frames t; history = new.history } → new.history.entries ≡ p.history.entries ++ entries.Call t (begun_of p.frames t + 1) (word_of call) reply ∷ [] → new.history.spare + 1 ≡ p.history.spare
        → MayFollow kinds.Begin t p new
    answered_then new whole noted less = subst (MayFollow kinds.Begin t p) (sym whole) (answered_follows (with_begun_of p.frames t) refl new.history noted less)
