-- A manager hands out no value: the voucher loses the key, and the parts stand for the state then.
use Rattle.std.proofs.Common.{◌≡◌, ℕ, ◌-◌, List, [], ◌∷◌, ◌++◌, refl, arith, sym, ap, ◌∙◌, subst, Option, Some, None, append-nil}
use Rattle.vch_base.specs.declared.key.Key.{Key}
use Rattle.vch_base.specs.Keys.{number_of}
use Rattle.vch_base.specs.Keyed.{of_key, with_key}
use Rattle.vch_table.specs.Indices.{Bounded, SetsIndex}
use Rattle.std.specs.Prelude.{Ok}
use Rattle.vch_model.specs.declared.call.Call.{Call}
use Rattle.vch_model.specs.declared.entry.Entry.{Entry}
use Rattle.vch_model.specs.declared.lists.Scenario.{Scenario}
use Rattle.vch_machine.specs.State as machine
use Rattle.vch_machine.specs.State.{Handles, Machine}
use Rattle.vch_machine.specs.Making.{make_done}
use Rattle.vch_machine.specs.Naming.{item}
use Rattle.vch_machine.specs.Frames as frames
use Rattle.vch_machine.specs.Working.{changed_each}
use Rattle.vch_legal.specs.Tie.{moved_place, moved_keys}
use Rattle.vch_legal.proofs.CallerLemmas.{moved_is}
use Rattle.vch_frame.specs.Indices.{index_of}
use Rattle.vch_frame.specs.Releases.{let_at}
use Rattle.vch_parts.specs.declared.frame.Frame.{Frame}
use Rattle.vch_parts.specs.Plain.{Indices, Plain, Part}
use Rattle.vch_parts.specs.Stands.{StandsFor}
use Rattle.vch_moves.specs.Moments.{IsAtWork, Forms}
use Rattle.vch_moves.specs.Works.{Workspace, ChangesEach, Alters, formed, machine_formed}
use Rattle.vch_moves.proofs.CallerLemmas.{vouchers_form}
use Rattle.vch_making.specs.Given.{gave_none}

module _ (sc : Scenario) (c : Plain) (m : Machine) (t : ℕ) (f : Frame) (g : machine.Frame) (u : Indices) (w : Handles) (k : Key) (call : Call) (u2 : Indices)
    (work : IsAtWork sc c m t f g) (forms : Forms c g u w) (bounded : Bounded u2) (sets : SetsIndex u u2 (number_of k) None) where
  abbrev becomes : Indices → Key → Option (Option ℕ)
  becomes map q = Some None

  abbrev to : Key → Option (Option ℕ)
  to q = Some None

  abbrev new : Workspace
  new = record { keyed = c.keyed; map = u2; lets = [] ++ let_at k (index_of k u) }

  abbrev place : ℕ
  place = moved_place sc.version call f.at f.keys

  abbrev more : List Key
  more = moved_keys sc.version call f.at f.keys

  alters : Alters c m w becomes to (k ∷ [])
  alters = record { differ = (tt, tt); agrees = λ q a b map same. tt; held = λ q h e. absurd (cc) }

  changes : ChangesEach becomes (k ∷ []) (record { keyed = c.keyed; map = u; lets = [] }) new
  changes = (new, record { shares = refl; others = λ q other. refl; map = sets; bounded = bounded; lets = refl }, refl)

  plain_same : (x : Plain) (ts : List Part) (xs : List Entry) (n : ℕ) → x.history ++ [] ≡ xs → x.spare - 0 ≡ n → record x { tasks = ts; history = x.history ++ []; spare = x.spare - 0 } ≡ record x { tasks = ts; history = xs; spare = n }
  plain_same x ts xs n a b = rw (a, b) refl

  nothing_less : (n : ℕ) → n - 0 ≡ n
  nothing_less n = omega arith

  parts_are : formed c t f place more new ≡ gave_none c t f sc.version call k u u2
  parts_are = plain_same c _ c.history c.spare (append-nil c.history) (nothing_less c.spare)

  machine_is : machine_formed m t g place more (changed_each to (k ∷ []) (record { forming = w; left = [] })) ≡ make_done sc.version m t g w call k (Ok None)
  machine_is = ap (λ x. frames.with_frame m t (Some x))
      (frame_is (moved_place sc.version call f.at f.keys) (moved_place sc.version call g.at_byte g.keys) (moved_keys sc.version call f.at f.keys) (moved_keys sc.version call g.at_byte g.keys) same_place same_keys
      ∙ sym (moved_is sc.version call (record g { forming = Some (with_key k None w); lets = g.lets ++ item k (of_key k w) })))
    where
      same_place : moved_place sc.version call f.at f.keys ≡ moved_place sc.version call g.at_byte g.keys
      same_place = rw (work.frame.at_byte, work.frame.keys) refl

      same_keys : moved_keys sc.version call f.at f.keys ≡ moved_keys sc.version call g.at_byte g.keys
      same_keys = rw (work.frame.at_byte, work.frame.keys) refl

      frame_is : (a b : ℕ) (ks js : List Key) → a ≡ b → ks ≡ js → record g { forming = Some (with_key k None w); at_byte = a; keys = ks; lets = g.lets ++ ([] ++ item k (of_key k w)) }
          ≡ record g { forming = Some (with_key k None w); at_byte = b; keys = js; lets = g.lets ++ item k (of_key k w) }
      frame_is a b ks js p q = rw (p, q) refl

  pub none_stands : StandsFor sc (gave_none c t f sc.version call k u u2) (make_done sc.version m t g w call k (Ok None))
  none_stands = subst (λ d. StandsFor sc d (make_done sc.version m t g w call k (Ok None))) parts_are
      (subst (λ n. StandsFor sc (formed c t f place more new) n) machine_is
      (vouchers_form sc c m t f g u w becomes to (k ∷ []) new place more work forms alters changes))
