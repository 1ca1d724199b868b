-- Work: a record lets four handles go at most and has sixteen bytes, and so many count for a name or a message that an exit gives up.
use Rattle.std.proofs.Common.{◌≡◌, ℕ, ◌+◌, ◌*◌, ◌≤◌, Bool, List, [], ◌∷◌, ◌++◌, refl, true, false, arith, sym, ap, ◌∙◌, subst, length, length-append, append-nil, drop, Some, None, Option, Ok, Err, Result}
use Rattle.std.specs.Prelude.{if◌then◌else◌, ℤ}
use Rattle.vch_base.specs.declared.codes.TheConstants.{KERN_INVALID_ARGUMENT}
use Rattle.vch_base.specs.declared.key.Key.{Key}
use Rattle.vch_base.specs.Keyed.{Keyed, of_key}
use Rattle.vch_base.specs.Keys.{every_key}
use Rattle.vch_base.specs.declared.kind.Kind.TheVariants as kinds
use Rattle.vch_recipe.specs.Recipes.{First, One, End, HeaderCut, ContentCut, first_of}
use Rattle.vch_recipe.specs.declared.recipe.Recipe.{Recipe}
use Rattle.vch_model.specs.declared.call.Call.{Call}
use Rattle.vch_model.specs.declared.call.Call.TheVariants as calls
use Rattle.vch_model.specs.declared.entry.Reply.TheVariants as replies
use Rattle.vch_model.specs.declared.lists.Scenario.{Scenario}
use Rattle.vch_model.specs.Legal.{asks}
use Rattle.vch_model.specs.Voucher.{Voucher}
use Rattle.vch_machine.specs.State.{Handles, Place, Message, Pool, Frame, Tasked, Machine, tasked, with_tasked, valued}
use Rattle.vch_machine.specs.Frames.{with_frame}
use Rattle.vch_machine.specs.Naming.{lowest, without_name, handles_of, orphaned}
use Rattle.vch_machine.specs.Next.{known_name, first_next, call_next}
use Rattle.vch_machine.specs.Working.{WorkDone, work_first, work_done, do_work, size_of, letting, do_gone, do_lost, exit_queue, exit_names, do_exit}
use Rattle.vch_legal.specs.Tie.{KeysFit, FormsCreate}
use Rattle.vch_legal.proofs.CallerLemmas.{Before, Near, near_self, near_own, forms_at, seen_names, asks_same, some_kind, no_work, record_long, first_few, orphaned_few}
use Rattle.vch_bounds.specs.Rooms.{made_in, given_up_in}
use Rattle.vch_bounds.specs.Spent.{asks_left, given_lets}
use Rattle.vch_bounds.proofs.events.Paid.{Pays, Own, own_framed, Costs, quiet_pays, answered_pays, near_among, as_used}
use Rattle.vch_bounds.proofs.events.Open.{Calls, on_costs, refuse_pays}

none_more : (n : ℕ) → n ≡ n + 0
none_more n = omega arith

-- where a record asks no manager, no keys are left
no_keys : (version : ℕ) (names : ℕ → Option Voucher) (ks : List Key) (r : Recipe) (rest : List ℕ)
    → KeysFit version names ks (One r rest) → asks version names r ≡ false → ks ≡ []
no_keys version names [] r rest fit e = refl
no_keys version names (k ∷ ks) r rest fit e = let h : asks version names r ≡ true = fit.1 in cc

not_asking : (b : Bool) → (if b then kinds.Make else kinds.Work) ≡ kinds.Work → b ≡ false
not_asking true e = cc
not_asking false e = refl

record_pays : (sc : Scenario) (t : ℕ) (m : Machine) (f : Frame) (v : Handles) (bytes : List ℕ) (r : Recipe) (rest : List ℕ)
    (x : Result WorkDone ℤ) → Calls sc t m f (calls.Create bytes) → f.receipt ≡ None → f.keys ≡ []
    → first_of (drop f.at_byte bytes) ≡ One r rest → work_first sc.version (tasked m t).names (One r rest) v ≡ x
    → Pays sc t m (work_done m t f (calls.Create bytes) (16 + length r.content) x)
record_pays sc t m f v bytes r rest (Err code) c receipt empty e g =
    refuse_pays sc t m f (calls.Create bytes) code c.among c.frame c.unanswered
record_pays sc t m f v bytes r rest (Ok w) c receipt empty e g =
    quiet_pays sc t m (with_frame m t (Some next)) f (Some next) 0 0 c.frame (own_framed t m m (Some next) c.among refl)
    (record { refers = none_more _; claims = none_more _; given = none_more _ })
    (on_costs sc.version _ f next (calls.Create bytes) 4 c.there c.unanswered c.unanswered receipt receipt fewer few)
    refl (λ k. as_used _) refl
  where
    next : Frame
    next = record f { forming = Some w.forming; at_byte = f.at_byte + (16 + length r.content); lets = f.lets ++ w.left }

    fewer : asks_left (calls.Create bytes) (f.at_byte + (16 + length r.content)) f.keys + 4 * 4 ≤ asks_left (calls.Create bytes) f.at_byte f.keys
    fewer = let a = record_long bytes f.at_byte r rest e in rw empty (omega (arith, a))

    few : length (f.lets ++ w.left) ≤ length f.lets + 4
    few =
        let a = length-append f.lets w.left in
        let b : length w.left ≤ length every_key = rw g at (first_few sc.version (tasked m t).names (One r rest) v) in
        omega (arith, a, b)

create_pays : (sc : Scenario) (t : ℕ) (m : Machine) (f : Frame) (v : Handles) (bytes : List ℕ) (first : First)
    → Calls sc t m f (calls.Create bytes) → f.receipt ≡ None
    → KeysFit sc.version (seen_names m.live (tasked m t).names) f.keys (first_of (drop f.at_byte bytes))
    → first_of (drop f.at_byte bytes) ≡ first → first_next sc.version (tasked m t).names first ≡ kinds.Work
    → Pays sc t m (work_done m t f (calls.Create bytes) (size_of first) (work_first sc.version (tasked m t).names first v))
create_pays sc t m f v bytes (One r rest) c receipt fit e next =
    record_pays sc t m f v bytes r rest (work_first sc.version (tasked m t).names (One r rest) v) c receipt empty e refl
  where
    free : asks sc.version (seen_names m.live (tasked m t).names) r ≡ false
    free = sym (asks_same sc.version m.live (tasked m t).names r)
        ∙ not_asking (asks sc.version (known_name (tasked m t).names) r) next

    empty : f.keys ≡ []
    empty = no_keys sc.version (seen_names m.live (tasked m t).names) f.keys r rest
        (subst (KeysFit sc.version (seen_names m.live (tasked m t).names) f.keys) e fit) free
create_pays sc t m f v bytes End c receipt fit e next =
    refuse_pays sc t m f (calls.Create bytes) KERN_INVALID_ARGUMENT c.among c.frame c.unanswered
create_pays sc t m f v bytes (HeaderCut left) c receipt fit e next =
    refuse_pays sc t m f (calls.Create bytes) KERN_INVALID_ARGUMENT c.among c.frame c.unanswered
create_pays sc t m f v bytes (ContentCut wanted left) c receipt fit e next =
    refuse_pays sc t m f (calls.Create bytes) KERN_INVALID_ARGUMENT c.among c.frame c.unanswered

-- Work, of a call that forms a voucher
pub work_pays : (sc : Scenario) (t : ℕ) (m : Machine) (f : Frame) (v : Handles) (call : Call) → Before sc t m → Calls sc t m f call
    → f.forming ≡ Some v → f.receipt ≡ None
    → call_next sc.version (tasked m t).names f.at_byte f.keys (Some call) ≡ Some kinds.Work
    → Pays sc t m (do_work sc.version m t f v call)
work_pays sc t m f v (calls.Create bytes) s c forming receipt next =
    create_pays sc t m f v bytes (first_of (drop f.at_byte bytes)) c receipt forms.fit refl (some_kind _ kinds.Work next)
  where
    forms : FormsCreate sc.version (seen_names m.live (tasked m t).names) t bytes f.at_byte f.keys (valued m.live v)
    forms = forms_at sc t m f v None (calls.Create bytes) s c.frame forming receipt c.there
work_pays sc t m f v (calls.Send to moving name id) s c forming receipt next = absurd (no_work _ next)
work_pays sc t m f v calls.Recv s c forming receipt next = absurd (no_work _ next)
work_pays sc t m f v (calls.GiveUp name) s c forming receipt next = absurd (no_work _ next)
work_pays sc t m f v (calls.Extract name key) s c forming receipt next = absurd (no_work _ next)
work_pays sc t m f v (calls.Recipes name) s c forming receipt next = absurd (no_work _ next)
work_pays sc t m f v (calls.Extern name adding n) s c forming receipt next = absurd (no_work _ next)
work_pays sc t m f v (calls.Charge name n) s c forming receipt next = absurd (no_work _ next)
work_pays sc t m f v calls.Ledger s c forming receipt next = absurd (no_work _ next)
work_pays sc t m f v calls.Assertions s c forming receipt next = absurd (no_work _ next)
work_pays sc t m f v calls.Live s c forming receipt next = absurd (no_work _ next)
work_pays sc t m f v calls.Exit s c forming receipt next =
    absurd (forms_at sc t m f v None calls.Exit s c.frame forming receipt c.there)

-- Work, of an exit.

-- the frame has four handles more to let go
letting_costs : (version : ℕ) (o : Option Call) (f : Frame) (lets : List Place) → length lets ≤ length every_key
    → Costs version o (Some f) (Some (record f { lets = f.lets ++ lets })) 0 0 1
letting_costs version o f lets few =
    let a = length-append f.lets lets in
    record { takes = omega arith; lets = more _ _ _ _ _ a few }
  where
    more : (x y z p q : ℕ) → x ≡ y + z → z ≤ length every_key → 4 * 0 + (4 * x + p + q) ≤ 4 * y + p + q + given_lets * 1
    more x y z p q a l = omega (arith, a, l)

-- a name or a message is given up
given_pays : (sc : Scenario) (t : ℕ) (m n mid : Machine) (f : Frame) (call : Call) (lets : List Place) → Calls sc t m f call
    → Near t m mid → length lets ≤ length every_key → Own t mid n (Some (record f { lets = f.lets ++ lets }))
    → n.tally ≡ m.tally → n.pools ≡ m.pools → made_in n.past ≡ made_in m.past → given_up_in n.past ≡ given_up_in m.past + 1
    → Pays sc t m n
given_pays sc t m n mid f call lets c near few own tally pools made given =
    quiet_pays sc t m n f (Some (record f { lets = f.lets ++ lets })) 0 1 c.frame
    (record { begun = own.begun ∙ near.begun; frame = own.frame })
    (record {
      refers = let a = ap (λ y. y.refers) tally in omega (arith, a);
      claims = let a = ap (λ y. y.claims) tally in omega (arith, a);
      given = given;
    })
    (letting_costs sc.version _ f lets few) made
    (λ k. let a = ap (λ (p : Keyed Pool). (of_key k p).used) pools in omega (arith, a)) refl

gone_pays : (sc : Scenario) (t : ℕ) (m : Machine) (f : Frame) (name : ℕ) → Calls sc t m f calls.Exit → Pays sc t m (do_gone m t f name)
gone_pays sc t m f name c =
    given_pays sc t m (do_gone m t f name) (with_tasked m t x) f calls.Exit (orphaned (with_tasked m t x) (handles_of (tasked m t).names name)) c
    near (orphaned_few (with_tasked m t x) (handles_of (tasked m t).names name))
    (record { begun = own.begun; frame = own.frame }) refl refl (omega arith) (omega arith)
  where
    x : Tasked
    x = record (tasked m t) { names = without_name (tasked m t).names name }

    near : Near t m (with_tasked m t x)
    near = near_own t m x refl

    own : Own t (with_tasked m t x) (letting (with_tasked m t x) t f (orphaned (with_tasked m t x) (handles_of (tasked m t).names name)))
        (Some (record f { lets = f.lets ++ orphaned (with_tasked m t x) (handles_of (tasked m t).names name) }))
    own = own_framed t (with_tasked m t x) (with_tasked m t x) _ (near_among t m (with_tasked m t x) near c.among) refl

lost_pays : (sc : Scenario) (t : ℕ) (m : Machine) (f : Frame) (q : Message) (queue : List Message) → Calls sc t m f calls.Exit
    → Pays sc t m (do_lost m t f q queue)
lost_pays sc t m f q queue c =
    given_pays sc t m (do_lost m t f q queue) (with_tasked m t x) f calls.Exit (orphaned (with_tasked m t x) q.voucher) c
    near (orphaned_few (with_tasked m t x) q.voucher)
    (record { begun = own.begun; frame = own.frame }) refl refl (omega arith) (omega arith)
  where
    x : Tasked
    x = record (tasked m t) { queue = queue }

    near : Near t m (with_tasked m t x)
    near = near_own t m x refl

    own : Own t (with_tasked m t x) (letting (with_tasked m t x) t f (orphaned (with_tasked m t x) q.voucher))
        (Some (record f { lets = f.lets ++ orphaned (with_tasked m t x) q.voucher }))
    own = own_framed t (with_tasked m t x) (with_tasked m t x) _ (near_among t m (with_tasked m t x) near c.among) refl

pub exit_pays : (sc : Scenario) (t : ℕ) (m : Machine) (f : Frame) → Calls sc t m f calls.Exit → Pays sc t m (do_exit m t f)
exit_pays sc t m f c = by_names (lowest (tasked m t).names)
  where
    by_queue : (queue : List Message) → Pays sc t m (exit_queue m t f queue)
    by_queue [] = answered_pays sc t m m f (record f { answered = true }) calls.Exit replies.Done [] c.frame c.unanswered c.among
        (near_self t m) refl refl refl (sym (append-nil f.lets)) (omega arith)
    by_queue (q ∷ queue) = lost_pays sc t m f q queue c

    by_names : (o : Option ℕ) → Pays sc t m (exit_names m t f o)
    by_names None = by_queue (tasked m t).queue
    by_names (Some name) = gone_pays sc t m f name c
