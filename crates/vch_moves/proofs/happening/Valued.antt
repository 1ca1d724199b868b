-- From what the code does to the values and the frame of a task, to plain data.
use Rattle.std.proofs.Common.{◌≡◌, ℕ, ◌-◌, true, List, [], ◌++◌, refl, arith, sym, ap, ◌∙◌, append-nil, Some, None}
use Rattle.vch_base.specs.declared.key.Key.{Key}
use Rattle.vch_base.specs.Keyed.{Keyed}
use Rattle.vch_base.specs.Tasks.{set_task}
use Rattle.vch_model.specs.Lines.{is_task}
use Rattle.vch_model.specs.declared.entry.Entry.{Entry}
use Rattle.vch_values.specs.Parts.{KeyParts}
use Rattle.vch_parts.specs.declared.frame.Frame.{Frame}
use Rattle.vch_parts.specs.declared.frames.Working.{Working}
use Rattle.vch_parts.specs.declared.parts.Parts.{Parts}
use Rattle.vch_parts.specs.Framed.{with_frame_of, with_begun_of}
use Rattle.vch_parts.specs.Plain.{Indices, Part, Plain, part_of, with_frame}
use Rattle.vch_parts.specs.Reached.{plain_of, parts_in, Reached}
use Rattle.vch_parts.proofs.CallerLemmas.{tasks_then}
use Rattle.vch_moves.specs.Steps.{copied, fresh_frame}
use Rattle.vch_moves.specs.Works.{Workspace, formed}
use Rattle.vch_moves.proofs.happening.Opened.{opened_is}

module _ (p : Parts) (t : ℕ) (reached : Reached p) (task : is_task p.scenario t ≡ true) where
  with_values : (c : Plain) (x y : Keyed KeyParts) (a b : List Part) (d e : List Entry) (i j : ℕ) → x ≡ y → a ≡ b → d ≡ e → i ≡ j
      → record c { keyed = x; tasks = a; history = d; spare = i } ≡ record c { keyed = y; tasks = b; history = e; spare = j }
  with_values c x y a b d e i j o q r s = rw (o, q, r, s) refl

  none_less : (n : ℕ) → n ≡ n - 0
  none_less n = omega arith

  -- the voucher that a frame forms was changed
  pub formed_is : (values2 : Keyed KeyParts) (fs2 : List Working) (f f2 : Frame) (at : ℕ) (ks : List Key) (w : Workspace)
      → values2 ≡ w.keyed → f2 ≡ record f { forming = Some w.map; at = at; keys = ks; lets = f.lets ++ w.lets } → fs2 ≡ with_frame_of (with_frame_of p.frames t None) t (Some f2)
      → plain_of (record p { values = values2; frames = fs2 }) ≡ formed (plain_of p) t f at ks w
  formed_is values2 fs2 f f2 at ks w values frame put =
      with_values (plain_of p) values2 w.keyed (parts_in p.vouchers fs2) (set_task (parts_in p.vouchers p.frames) t (with_frame (part_of (plain_of p) t) (Some (record f { forming = Some w.map; at = at; keys = ks; lets = f.lets ++ w.lets }))))
      p.history.entries (p.history.entries ++ []) p.history.spare (p.history.spare - 0) values
      (tasks_then p t reached task fs2 (Some f2) put ∙ ap (λ (y : Frame). set_task (parts_in p.vouchers p.frames) t (with_frame (part_of (plain_of p) t) (Some y))) frame)
      (sym (append-nil p.history.entries)) (none_less p.history.spare)

  -- a call begins with a copy of a voucher
  pub copied_is : (values2 : Keyed KeyParts) (fs2 : List Working) (v : Indices) (ks : List Key) → fs2 ≡ with_frame_of (with_begun_of p.frames t) t (Some (fresh_frame v ks))
      → plain_of (record p { values = values2; frames = fs2 }) ≡ copied (plain_of p) t values2 v ks
  copied_is values2 fs2 v ks put = ap (λ (c : Plain). record c { keyed = values2 }) (opened_is p t reached task fs2 (fresh_frame v ks) put)
