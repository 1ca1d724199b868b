-- From what the code of Work does to the parts, to what the machine's event does.
use Rattle.std.proofs.Common.{◌≡◌, ℕ, ◌+◌, ◌-◌, ◌≤◌, true, false, List, [], ◌++◌, append-nil, refl, arith, sym, ap, ◌∙◌, drop, subst, Option, Some, None, Result, Ok, Err}
use Rattle.std.specs.Prelude.{ℤ}
use Rattle.vch_base.specs.declared.fault.Code.{Code}
use Rattle.vch_base.specs.declared.key.Key.{Key}
use Rattle.vch_base.specs.declared.kind.Kind.TheVariants as kinds
use Rattle.vch_base.specs.Keyed.{Keyed}
use Rattle.vch_recipe.specs.Recipes.{first_of}
use Rattle.vch_model.specs.Lines.{is_task}
use Rattle.vch_model.specs.declared.call.Call.TheVariants as calls
use Rattle.vch_model.specs.declared.entry.Entry.{Entry}
use Rattle.vch_machine.specs.Frames.{refuse}
use Rattle.vch_machine.specs.Next.{nth_call}
use Rattle.vch_machine.specs.State as machine
use Rattle.vch_machine.specs.State.{Handles, Machine, tasked}
use Rattle.vch_machine.specs.Working.{WorkDone, work_first, work_done, do_work, changed_each, size_of}
use Rattle.vch_values.specs.Parts.{KeyParts}
use Rattle.vch_frame.specs.declared.frame.KeyIndex.{KeyIndex}
use Rattle.vch_parts.specs.declared.frame.Frame.{Frame}
use Rattle.vch_parts.specs.declared.frames.Working.{Working}
use Rattle.vch_parts.specs.declared.parts.Parts.{Parts}
use Rattle.vch_parts.specs.Framed.{frame_of, begun_of, with_frame_of}
use Rattle.vch_parts.specs.Plain.{Indices, Part, Plain}
use Rattle.vch_parts.specs.Reached.{plain_of, Reached, IsNext, IsState, MayFollow}
use Rattle.vch_parts.specs.Stands.{StandsFor}
use Rattle.vch_parts.proofs.CallerLemmas.{Happens, tasks_then}
use Rattle.vch_moves.specs.Desks.{AllApart}
use Rattle.vch_moves.specs.Works.{ChangesEach, Alters, formed, machine_formed}
use Rattle.vch_moves.proofs.CallerLemmas.{formed_stands, refused_stands, from_state, may_follow, call_happens, work_is_done, work_room, stands_of, ties_of}
use Rattle.vch_making.specs.Refused.{IsRefused}
use Rattle.vch_creating.specs.declared.change.Change.{Change}
use Rattle.vch_creating.specs.Carried.{ReadsNext, MayChange, becoming, keys_of}
use Rattle.vch_creating.specs.Reading.{Reads, first_change, named_by}
use Rattle.vch_creating.proofs.forming.Counts.{may_do}
use Rattle.vch_creating.proofs.forming.Deeds.{becomes_is, deed_held, keys_differ}
use Rattle.vch_creating.proofs.forming.Naming.{NamedIn, first_named}
use Rattle.vch_creating.proofs.forming.Next.{Forming, seen, seen_of, names_same, copies_known, begun_there, no_lets}
use Rattle.vch_creating.proofs.forming.Records.{Answers, first_answers}

worked_err : (version : ℕ) (x : Keyed KeyParts) (w : Handles) (code : Code) (res : Result WorkDone ℤ) → Answers version x w (Err code) res → res ≡ Err code.number
worked_err version x w code (Ok z) a = absurd a
worked_err version x w code (Err n) a = ap Err (sym a)

-- parts that differ in the keys, the tasks, the history and its room
plain_same : (x : Plain) (v : Keyed KeyParts) (d e : List Part) (f g : List Entry) (i j : ℕ) → d ≡ e → f ≡ g → i ≡ j
    → record x { keyed = v; tasks = d; history = f; spare = i } ≡ record x { keyed = v; tasks = e; history = g; spare = j }
plain_same x v d e f g i j p q r = rw (p, q, r) refl

none_less : (n : ℕ) → n ≡ n - 0
none_less n = omega arith

-- a record was carried out by the machine, as a change of some keys
record Carries (version : ℕ) (c : Plain) (m : Machine) (w : Handles) (x : Option Change) (res : Result WorkDone ℤ) : Type 0 where
  to : Key → Option (Option ℕ)
  alters : Alters c m w (becoming x) to (keys_of version x)
  result : res ≡ Ok (changed_each to (keys_of version x) (record { forming = w; left = [] }))

module _ (p : Parts) (t : ℕ) (reached : Reached p) (task : is_task p.scenario t ≡ true) (next : IsNext p t (Some kinds.Work))
    (bytes : List ℕ) (there : nth_call p.scenario t (begun_of p.frames t) ≡ Some (calls.Create bytes)) where
  abbrev c : Plain
  c = plain_of p

  abbrev version : ℕ
  version = p.scenario.version

  module _ (m : Machine) (st : IsState p.scenario c m) (f : Frame) (g : machine.Frame) (u : Indices) (w : Handles) (z : Forming p t reached task next bytes there m f g u w) where
    abbrev s : StandsFor p.scenario c m
    s = stands_of p.scenario c m st

    abbrev worked_on : Result WorkDone ℤ
    worked_on = work_first version (tasked m t).names (first_of (drop g.at_byte bytes)) w

    -- what the code read is what the machine makes of the record
    answered : (res : Result (Option Change) Code) → first_change version (named_by p t) (first_of (drop f.at bytes)) ≡ res → Answers version p.values w res worked_on
    answered res e =
        subst (λ n. Answers version p.values w res (work_first version (tasked m t).names (first_of (drop n bytes)) w)) z.at.work.frame.at_byte
        (subst (λ x. Answers version p.values w x (work_first version (tasked m t).names (first_of (drop f.at bytes)) w)) e
        (first_answers version p.values w (named_by p t) (tasked m t).names (names_same p t reached task next bytes there m st f g z.at) (first_of (drop f.at bytes))))

    named : (res : Result (Option Change) Code) → first_change version (named_by p t) (first_of (drop f.at bytes)) ≡ res → NamedIn (named_by p t) res
    named res e = subst (NamedIn (named_by p t)) e (first_named version (named_by p t) (first_of (drop f.at bytes)))

    may : AllApart p.values → (x : Option Change) → NamedIn (named_by p t) (Ok x) → MayChange p.values x
    may apart None n = tt
    may apart (Some y) n = may_do p.scenario c m reached.limited s (ties_of p.scenario c m st) apart y.deed (copies_known p t reached task next bytes there m st f g z.at y.deed n)

    carries : AllApart p.values → (x : Option Change) → NamedIn (named_by p t) (Ok x) → (res : Result WorkDone ℤ) → Answers version p.values w (Ok x) res → Carries version c m w x res
    carries apart None n (Ok y) a = record { to = λ k. None; alters = record { differ = tt; agrees = λ k v q r e. tt; held = λ k h e. absurd (cc) }; result = ap Ok a }
    carries apart None n (Err e) a = absurd a
    carries apart (Some x) n (Err e) a = absurd a
    carries apart (Some x) n (Ok y) a = record {
      to = a.by;
      alters = record {
        differ = keys_differ version x.keys;
        agrees = becomes_is p.values apart w x.deed a.by a.is;
        held = deed_held c m w x.deed a.by a.is (copies_known p t reached task next bytes there m st f g z.at x.deed n);
      };
      result = ap Ok a.result;
    }

    -- the event, where the record is carried out
    module _ (apart : AllApart p.values) (x : Option Change) (nxt : ℕ) (reads : Reads version (named_by p t) bytes f.at (Ok (record { change = x; next = nxt })))
        (values2 : Keyed KeyParts) (map2 : Indices) (lets2 : List KeyIndex)
        (changes : ChangesEach (becoming x) (keys_of version x) (record { keyed = p.values; map = u; lets = [] }) (record { keyed = values2; map = map2; lets = lets2 })) where
      carried : Carries version c m w x worked_on
      carried = carries apart x (named (Ok x) reads.done) worked_on (answered (Ok x) reads.done)

      abbrev done : WorkDone
      done = changed_each carried.to (keys_of version x) (record { forming = w; left = [] })

      abbrev after : Machine
      after = machine_formed m t g nxt f.keys done

      at_next : nxt ≡ g.at_byte + size_of (first_of (drop g.at_byte bytes))
      at_next = reads.next ∙ ap (λ n. n + size_of (first_of (drop n bytes))) z.at.work.frame.at_byte

      done_is : do_work version m t g w (calls.Create bytes) ≡ after
      done_is = ap (work_done m t g (calls.Create bytes) (size_of (first_of (drop g.at_byte bytes)))) carried.result
          ∙ ap (λ n. machine_formed m t g n g.keys done) (sym at_next)
          ∙ ap (λ ks. machine_formed m t g nxt ks done) (sym z.at.work.frame.keys)

      happens : Happens p.scenario false kinds.Work t (formed c t f nxt f.keys (record { keyed = values2; map = map2; lets = lets2 })) m
      happens = call_happens p.scenario c m t f g task kinds.Work false (Some (do_work version m t g w (calls.Create bytes))) after _ z.at
          (work_is_done p.scenario c m t f g task false u w bytes z.forms (begun_there p t reached task next bytes there) z.at)
          (ap (λ n. Some n) done_is)
          (formed_stands p.scenario c m t z.at.work.positive z.at.work.inside s f g u w z.at.work.own z.at.work.task z.at.work.frame z.at.work.idle z.forms.forms z.forms.map
          (becoming x) carried.to (keys_of version x) carried.alters.differ carried.alters.agrees carried.alters.held (record { keyed = values2; map = map2; lets = lets2 }) changes nxt f.keys)

    -- the event, where the call is refused
    refused_is : (code : Code) → Reads version (named_by p t) bytes f.at (Err code) → do_work version m t g w (calls.Create bytes) ≡ refuse m t g (calls.Create bytes) code.number
    refused_is code reads = ap (work_done m t g (calls.Create bytes) (size_of (first_of (drop g.at_byte bytes)))) (worked_err version p.values w code worked_on (answered (Err code) reads.refused))

    room_there : (code : Code) → Reads version (named_by p t) bytes f.at (Err code) → 1 ≤ p.history.spare
    room_there code reads = work_room p.scenario c m t s (ties_of p.scenario c m st) task f g u w bytes code.number z.forms (begun_there p t reached task next bytes there) z.at (refused_is code reads)

    refusal_happens : (code : Code) → Reads version (named_by p t) bytes f.at (Err code) → (new : Parts) → IsRefused t code.number p new → Happens p.scenario false kinds.Work t (plain_of new) m
    refusal_happens code reads new refusal = call_happens p.scenario c m t f g task kinds.Work false (Some (do_work version m t g w (calls.Create bytes))) (refuse m t g (calls.Create bytes) code.number) (plain_of new) z.at
        (work_is_done p.scenario c m t f g task false u w bytes z.forms (begun_there p t reached task next bytes there) z.at)
        (ap (λ n. Some n) (refused_is code reads))
        (subst (λ d. StandsFor p.scenario d (refuse m t g (calls.Create bytes) code.number)) (sym (refusal.plain f (calls.Create bytes) z.own there))
        (refused_stands p.scenario c m t z.at.work.positive z.at.work.inside s f g (calls.Create bytes) code.number z.at.work.own z.at.work.task z.at.work.frame z.at.work.idle (room_there code reads)))

  -- what the code needs and does

  pub may_change : AllApart p.values → (x : Option Change) (nxt : ℕ) → ReadsNext p t (Ok (record { change = x; next = nxt })) → MayChange p.values x
  may_change apart x nxt reads = from_state p _ reached (λ m st. seen p t reached task next bytes there m st _ (λ f g u w z.
      may m st f g u w z apart x (named m st f g u w z (Ok x) (reads f bytes z.own there).done)))

  pub refusal_room : (code : Code) → ReadsNext p t (Err code) → 1 ≤ p.history.spare
  refusal_room code reads = from_state p _ reached (λ m st. seen p t reached task next bytes there m st _ (λ f g u w z. room_there m st f g u w z code (reads f bytes z.own there)))

  pub refusal_follows : (code : Code) → ReadsNext p t (Err code) → (new : Parts) → IsRefused t code.number p new → MayFollow kinds.Work t p new
  refusal_follows code reads new refusal = may_follow kinds.Work t p new false (plain_of new) refusal.scenario refl (λ m st. seen p t reached task next bytes there m st _ (λ f g u w z.
      refusal_happens m st f g u w z code (reads f bytes z.own there) new refusal))

  module _ (f : Frame) (u : Indices) (own : frame_of p.frames t ≡ Some f) (forms : f.forming ≡ Some u) (apart : AllApart p.values)
      (x : Option Change) (nxt : ℕ) (reads : ReadsNext p t (Ok (record { change = x; next = nxt })))
      (values2 : Keyed KeyParts) (map2 : Indices) (lets2 : List KeyIndex) (frames2 : List Working)
      (changes : ChangesEach (becoming x) (keys_of version x) (record { keyed = p.values; map = u; lets = f.lets }) (record { keyed = values2; map = map2; lets = lets2 }))
      (put : frames2 ≡ with_frame_of (with_frame_of p.frames t None) t (Some (record f { forming = Some map2; at = nxt; lets = lets2 }))) where
    empty : f.lets ≡ []
    empty = no_lets p t reached task next bytes there f own

    abbrev put_frame : List KeyIndex → Frame
    put_frame ls = record f { forming = Some map2; at = nxt; lets = ls }

    tasks_same : plain_of (record p { frames = frames2; values = values2 }) ≡ formed c t f nxt f.keys (record { keyed = values2; map = map2; lets = lets2 })
    tasks_same = plain_same c values2 _ _ _ _ _ _
        (tasks_then p t reached task frames2 (Some (put_frame (f.lets ++ lets2)))
        (put ∙ ap (λ (ls : List KeyIndex). with_frame_of (with_frame_of p.frames t None) t (Some (put_frame ls))) (ap (λ (ls : List KeyIndex). ls ++ lets2) (sym empty))))
        (sym (append-nil p.history.entries)) (none_less p.history.spare)

    pub work_follows : MayFollow kinds.Work t p (record p { frames = frames2; values = values2 })
    work_follows = may_follow kinds.Work t p (record p { frames = frames2; values = values2 }) false (formed c t f nxt f.keys (record { keyed = values2; map = map2; lets = lets2 })) refl tasks_same
        (λ m st. seen_of p t reached task next bytes there m st f u _ own forms (λ g w z.
        happens m st f g u w z apart x nxt (reads f bytes own there) values2 map2 lets2
        (subst (λ (ls : List KeyIndex). ChangesEach (becoming x) (keys_of version x) (record { keyed = p.values; map = u; lets = ls }) (record { keyed = values2; map = map2; lets = lets2 })) empty changes)))
