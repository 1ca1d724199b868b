-- The facts of a state: at the start, through every event and every end of a phase, and so along every run.
use Rattle.std.proofs.Common.{◌≡◌, ◌≢◌, ℕ, zero, suc, ◌+◌, ◌≤◌, Bool, List, [], ◌∷◌, refl, true, false, ◌&&◌, arith, sym, ap, ◌∙◌, subst, length, map, get_or, Some, None, Option}
use Rattle.std.proofs.lemmas.List.{length-map}
use Rattle.std.specs.Prelude.{ℤ, is_some, if◌then◌else◌, nat_lt, ◌==◌}
use Rattle.vch_base.specs.declared.flags.Flags.{Flags}
use Rattle.vch_base.specs.declared.key.Key.{Key}
use Rattle.vch_base.specs.Keyed.{of_key}
use Rattle.vch_base.specs.Tasks.{at_task}
use Rattle.vch_base.specs.declared.key.Key.TheVariants as keys
use Rattle.vch_model.specs.declared.call.Call.{Call}
use Rattle.vch_model.specs.declared.entry.Entry.TheVariants as entries
use Rattle.vch_base.proofs.CallerLemmas.{other_items}
use Rattle.vch_machine.proofs.CallerLemmas.{Leaves, still}
use Rattle.vch_model.specs.declared.lists.Scenario.{Scenario}
use Rattle.vch_model.specs.Lines.{is_task, phases_in}
use Rattle.vch_machine.specs.State.{Handles, Frame, tasked, Place, same_place, Living, Tasked, Machine, idle, handle_of, start, default_place, default_living, living_at}
use Rattle.vch_machine.specs.Events.{event, phase_event, all_at_rest}
use Rattle.vch_machine.specs.Frames.{noted, refuse}
use Rattle.vch_machine.specs.Schedules.{Move, happens, run, run_from_start}
use Rattle.vch_legal.specs.Facts.{Fits, spot, OptionFits, EachOnce, Different, ValueFits, ValuesFit, NumbersFit, IsCounted, bit, times, total, burden}
use Rattle.vch_legal.proofs.facts.Choices.{cases_bool}
use Rattle.vch_legal.proofs.spots.EventSpots.{AllFit, fits_of, let_go_fits, recheck_fits}
use Rattle.vch_legal.proofs.spots.AskSpots.{ask_fits}
use Rattle.vch_legal.proofs.spots.ReferSpots.{refer_fits}
use Rattle.vch_legal.proofs.spots.MakeSpots.{made_fits}
use Rattle.vch_legal.proofs.spots.Places.{same_place_eq}
use Rattle.vch_legal.proofs.spots.StartFits.{start_fits}
use Rattle.vch_legal.proofs.values.ValuesMade.{asked_value}
use Rattle.vch_legal.proofs.values.LiveKeeps.{LiveOf, live_cases}
use Rattle.vch_legal.proofs.facts.TaskKeeps.{TasksFit, event_tasks, plain_tasks}
use Rattle.vch_legal.proofs.spots.PlainEvents.{Plain, refuse_plain}
use Rattle.vch_legal.proofs.tally.TallyKeeps.{not_default, counted_cases}
use Rattle.vch_legal.proofs.facts.Cases.{Cases, May, event_case, fits_at, in_range_of, still_going}

-- every event keeps the facts of every handle
pub spot_cases : (sc : Scenario) (t : ℕ) (m : Machine) → Fits sc m → is_task sc t ≡ true → Cases sc t m AllFit
spot_cases sc t m h task = record {
  plain = λ n p q. fits_of (spot n q) (spot m q) (p.spots q) (h.spots q);
  make = λ f v call k x e forming current receipt claim lets eq. made_fits m t f k x
      (handle_of m.live k x) refl e receipt h.each_once
      (λ none. not_default sc m k x h.different h.default_live
      (asked_value sc m t f v call k x task h.values eq) none) h.spots;
  refer = λ f v call q e forming current receipt. refer_fits sc.version m t f v call q e
      (still_going f v (fits_at sc t m f h e) forming) forming
      ((fits_at sc t m f h e).claim (ap is_some receipt)) receipt h.spots;
  let_go = λ f q rest e lets receipt claim. let_go_fits m t f q rest e
      (fits_at sc t m f h e).answered lets claim h.spots;
  ask = λ f c e claim a. ask_fits m t f c e claim a h.spots;
  recheck = λ f c e claim a. recheck_fits m t f c e (fits_at sc t m f h e).answered claim a h.spots;
}

-- all but the facts of tasks
record Values (sc : Scenario) (n : Machine) : Type 0 where
  spots : AllFit n
  live : LiveOf sc n
  counted : IsCounted n

value_cases : (sc : Scenario) (t : ℕ) (m : Machine) → Fits sc m → is_task sc t ≡ true → Cases sc t m (Values sc)
value_cases sc t m h task =
    let a : Cases sc t m AllFit = spot_cases sc t m h task in
    let b : Cases sc t m (λ n. LiveOf sc n) = live_cases sc t m h task in
    let c : Cases sc t m IsCounted = counted_cases sc t m h task in record {
      plain = λ o p. record { spots = a.plain o p; live = b.plain o p; counted = c.plain o p };
      make = λ f v call k x e forming now receipt claim lets eq.
          record {
            spots = a.make f v call k x e forming now receipt claim lets eq;
            live = b.make f v call k x e
                forming now receipt claim lets eq;
            counted = c.make f v call k x e forming now receipt claim lets eq;
          };
      refer = λ f v call q e forming now receipt. record {
        spots = a.refer f v call q e forming now receipt;
        live =
            b.refer f v call q e forming now receipt;
        counted = c.refer f v call q e forming now receipt;
      };
      let_go = λ f q rest e lets receipt claim. record {
        spots = a.let_go f q rest e lets receipt claim;
        live =
            b.let_go f q rest e lets receipt claim;
        counted = c.let_go f q rest e lets receipt claim;
      };
      ask = λ f d e claim u. record {
        spots = a.ask f d e claim u;
        live = b.ask f d e claim u;
        counted = c.ask f d e
            claim u;
      };
      recheck = λ f d e claim u. record {
        spots = a.recheck f d e claim u;
        live = b.recheck f d e claim u;
        counted =
            c.recheck f d e claim u;
      };
    }

fits_from : (sc : Scenario) (n : Machine) → Values sc n → TasksFit sc n → Fits sc n
fits_from sc n v t = record {
  spots = v.spots;
  frames = t.frames;
  sends = t.sends;
  exits = t.exits;
  tasks = t.tasks;
  each_once = v.live.each_once;
  different = v.live.different;
  default_live = v.live.default_live;
  values = v.live.values;
  numbers = v.live.numbers;
  counted = v.counted;
}

-- every event keeps all facts
pub event_keeps : (sc : Scenario) (want : Bool) (t : ℕ) (m n : Machine) → Fits sc m → event sc want m t ≡ Some n
    → Fits sc n
event_keeps sc want t m n h e =
    fits_from sc n (subst (May (Values sc)) e (event_case sc want t m (Values sc) h (value_cases sc t m h)))
    (event_tasks sc want t m n h e)

-- a refusal keeps them, by itself
pub refuse_keeps : (sc : Scenario) (t : ℕ) (m : Machine) (f : Frame) (v : Handles) (call : Call) (code : ℤ) → Fits sc m
    → is_task sc t ≡ true → (tasked m t).frame ≡ Some f → f.forming ≡ Some v → f.receipt ≡ None → f.claim ≡ None
    → f.lets ≡ [] → Fits sc (refuse m t f call code)
refuse_keeps sc t m f v call code h task frame forming receipt claim lets =
    fits_from sc n ((value_cases sc t m h task).plain n plain) (plain_tasks sc t m n h plain others)
  where
    n : Machine
    n = refuse m t f call code

    plain : Plain sc t m n
    plain = refuse_plain sc t m f v call code (record {
      under = record {
        range = in_range_of sc m h.tasks;
        sends = h.sends;
        exits = h.exits;
        task = task;
        frame = frame;
        fits = fits_at sc t m f h frame;
      };
      forming = forming;
      receipt = receipt;
      claim = claim;
      lets = lets;
    })

    others : (u : ℕ) → u ≢ t → Leaves u m n
    others u apart = record {
      task = ap still (other_items m.tasks t u _ idle apart);
      phases = refl;
    }

-- an end of a phase keeps them
noted_keeps : (sc : Scenario) (m : Machine) → Fits sc m → Fits sc (noted m entries.Phase)
noted_keeps sc m h = record {
  spots = h.spots;
  frames = h.frames;
  sends = h.sends;
  exits = h.exits;
  tasks = h.tasks;
  each_once = h.each_once;
  different = h.different;
  default_live = h.default_live;
  values = h.values;
  numbers = record {
    within = λ p a e. more a.made (length m.past)
        (h.numbers.within p a e);
    counted = h.numbers.counted;
    once = h.numbers.once;
  };
  counted = h.counted;
}
  where
    more : (a n : ℕ) → a ≤ n → a ≤ suc n
    more a n g = omega arith

pub phase_keeps : (sc : Scenario) (m n : Machine) → Fits sc m → phase_event sc m ≡ Some n → Fits sc n
unfolding phase_event
phase_keeps sc m n h e = by_test (all_at_rest sc m && nat_lt (phases_in m.past)
    (length sc.phases)) e
  where
    by_test : (b : Bool) → (if b then Some (noted m entries.Phase) else None) ≡ Some n → Fits sc n
    by_test true g = let k : noted m entries.Phase ≡ n = cc in subst (Fits sc) k (noted_keeps sc m h)
    by_test false g = cc

-- The start

pub idle_task : (flags : List Flags) (t : ℕ) → at_task (map (λ _. idle) flags) t idle ≡ idle
idle_task flags zero = refl
idle_task flags (suc i) = from_place flags i
  where
    from_place : (flags : List Flags) (i : ℕ) → get_or (map (λ _. idle) flags) i idle ≡ idle
    from_place [] i = refl
    from_place (x ∷ flags) zero = refl
    from_place (x ∷ flags) (suc i) = from_place flags i

start_once : (sc : Scenario) → EachOnce (start sc)
start_once sc p = at_key p.key p.handle
  where
    at_key : (k : Key) (h : ℕ) → times (λ (l : Living). same_place l.place (record { key = k; handle = h }))
        (start sc).live + times (λ i. i == h) (of_key k (start sc).pools).free
        ≡ bit (nat_lt h (of_key k (start sc).pools).used)
    at_key keys.Importance h = grind arith
    at_key keys.Bank h = grind arith
    at_key keys.User h = grind arith
    at_key keys.Test h = grind arith

-- only Default is live
lone_default : (p : Place) (a : Living) → living_at (default_living ∷ []) p ≡ Some a
    → (default_place ≡ p) × (default_living ≡ a)
lone_default p a e = cases_bool (same_place default_place p) ((default_place ≡ p) × (default_living ≡ a))
    (λ here. let k : Some default_living ≡ Some a = rw here at e in (same_place_eq default_place p here, some_eq k))
    (λ other. let k : None ≡ Some a = rw other at e in cc)
  where
    some_eq : {x y : Living} → Some x ≡ Some y → x ≡ y
    some_eq g = cc

start_values : (sc : Scenario) → ValuesFit sc (default_living ∷ [])
start_values sc p a e = let k : (default_place ≡ p) × (default_living ≡ a) = lone_default p a e in
    subst (λ (q : Place). ValueFits sc q.key a.value) k.0 (subst (λ (b : Living). ValueFits sc keys.Bank b.value) k.1
    (record { belongs = tt; tasks = refl }))

start_different : Different (default_living ∷ [])
start_different p a e = let k : (default_place ≡ p) × (default_living ≡ a) = lone_default p a e in
    subst (λ (q : Place). handle_of (default_living ∷ []) q.key a.value ≡ Some q.handle) k.0
    (subst (λ (b : Living). handle_of (default_living ∷ []) keys.Bank b.value ≡ Some 0) k.1 refl)

start_numbers : NumbersFit 0 (default_living ∷ [])
start_numbers = record {
  within = λ p a e. subst (λ (b : Living). b.made ≤ 0) (lone_default p a e).1 none;
  counted = λ p a e other. let k : same_place default_place default_place ≡ false =
      subst (λ (q : Place). same_place q default_place ≡ false) (sym (lone_default p a e).0) other in
      let g : same_place default_place default_place ≡ true = refl in cc;
  once = λ p q a b e g same. sym (lone_default p a e).0 ∙ (lone_default q b g).0;
}
  where
    none : 0 ≤ 0
    none = omega arith

pub start_keeps : (sc : Scenario) → Fits sc (start sc)
start_keeps sc = record {
  spots = start_fits sc;
  frames = λ t. subst (λ (x : Tasked). OptionFits x.frame) (sym (idle_task sc.flags t)) tt;
  sends = λ t f to moving name id task e call. let k : None ≡ Some f =
      sym (ap (λ (x : Tasked). x.frame) (idle_task sc.flags t)) ∙ e in cc;
  exits = λ t f task e call. let k : None ≡ Some f =
      sym (ap (λ (x : Tasked). x.frame) (idle_task sc.flags t)) ∙ e in cc;
  tasks = length-map sc.flags (λ _. idle);
  each_once = start_once sc;
  different = start_different;
  default_live = refl;
  values = start_values sc;
  numbers = start_numbers;
  counted = none;
}
  where
    none : 0 ≤ 0
    none = omega arith

-- Runs

happens_keeps : (sc : Scenario) (m n : Machine) (move : Move) → Fits sc m → happens sc m move ≡ Some n → Fits sc n
happens_keeps sc m n (Move.Of t want) h e = event_keeps sc want t m n h e
happens_keeps sc m n Move.EndPhase h e = phase_keeps sc m n h e

-- along every run
pub run_keeps : (sc : Scenario) (moves : List Move) (o : Option Machine) (n : Machine)
    → ((m : Machine) → o ≡ Some m → Fits sc m) → run sc moves o ≡ Some n → Fits sc n
run_keeps sc moves None n h e = cc
run_keeps sc [] (Some m) n h e = h n e
run_keeps sc (move ∷ moves) (Some m) n h e = run_keeps sc moves (happens sc m move) n
    (λ k g. happens_keeps sc m k move (h m refl) g) e

-- every state that a run reaches
pub reached_fits : (sc : Scenario) (moves : List Move) (n : Machine) → run_from_start sc moves ≡ Some n → Fits sc n
reached_fits sc moves n e = run_keeps sc moves (Some (start sc)) n
    (λ m g. let k : start sc ≡ m = cc in subst (Fits sc) k (start_keeps sc)) e

-- at every moment of every run
pub asks_at_most : (sc : Scenario) (moves : List Move) (n : Machine) → run_from_start sc moves ≡ Some n
    → n.tally.asks ≤ n.tally.refers
asks_at_most sc moves n e = left_of n.tally.asks n.tally.refers (total (λ p. burden (spot n p)) n.live)
    (reached_fits sc moves n e).counted
  where
    left_of : (asks refers more : ℕ) → asks + more ≤ refers → asks ≤ refers
    left_of asks refers more h = omega arith
