-- The laws of counts, names and winds, over every course from the start.
use Rattle.std.proofs.Common.{◌≡◌, ℕ, suc, ◌+◌, ◌<◌, ◌≤◌, Bool, true, false, ltb, List, [], ◌∷◌, reverse, length, ℤ, Some, None, Ok, Err, Option, sym, refl, ap, ◌∙◌, subst, inl, inr, arith}
use Rattle.std.proofs.lemmas.List.{length-map, length-reverse}
use Rattle.std.specs.Option.{ok_or}
use Rattle.std.proofs.lemmas.Option.{slice_get_within}
use Rattle.std.proofs.lemmas.Bool.{eq-eqb, ne_eqb, ltb-true}
use Rattle.cell.specs.declared.name.Name.{Name}
use Rattle.cell.specs.declared.value.Value.{Value}
use Rattle.cell.specs.declared.frame.Frame.{Frame}
use Rattle.cell.specs.declared.frame.Frame.TheVariants.{Saved, Back, Mark, In, Out, Hold, Toss, Enter}
use Rattle.cell.specs.declared.wind.Wind.{Wind}
use Rattle.code.specs.declared.instruction.Instruction.{Instruction}
use Rattle.machine.specs.declared.act.Act.{Act}
use Rattle.machine.specs.declared.end.End.{End}
use Rattle.machine.specs.declared.end.End.TheVariants.{WrongFrame, NotHeld}
use Rattle.machine.specs.declared.frame_move.FrameMove.{FrameMove}
use Rattle.machine.specs.declared.frame_move.FrameMove.TheVariants.{Keep, Push, PushBoth, Pop, Replace, Restore}
use Rattle.machine.specs.declared.wind_move.WindMove.{WindMove}
use Rattle.machine.specs.declared.wind_move.WindMove.TheVariants.{Stay, Open, Reenter, Leave}
use Rattle.machine.specs.declared.mode.Mode.{Mode}
use Rattle.machine.specs.declared.mode.Mode.TheVariants.{Returning, Throwing}
use Rattle.machine.specs.Named.{find}
use Rattle.machine.specs.State.{State, Capture, Limits, capture_name, wind_number, wind_numbers, start}
use Rattle.machine.specs.Checks.{Checked, ◌>>=◌, held_under, top_wind}
use Rattle.machine.specs.Acts.{Plan, does}
use Rattle.machine.specs.Returning.{wind_at, again}
use Rattle.machine.specs.Throwing.{shared, unwind}
use Rattle.machine.specs.Plan.{plan, plan_in}
use Rattle.machine.specs.Course.{Course, course}
use Rattle.laws.specs.Counts.{CountsConserved, CountsWithinSteps, AllNamesMade, InForce, WindsBalanced}
use Rattle.laws.specs.Reached.{LimitsKept, SomeWind, PlanEnd, Unreached, NeverReached, NoThrow, bodies, WindsStand, RightWinds}
use Rattle.laws.proofs.Counting.{count}
use Rattle.laws.proofs.Named.{find-all, find_none}
use Rattle.laws.proofs.Planned.{Planned, rested, thrown, Rested, writes, pushes, pushes_both, pops_one, passes_mark, captures-many, captures-once, forgets, opens, closes, tosses, reenters, Thrown, throws_out, throws_in, lands, planned}
use Rattle.laws.proofs.Sound.{Sound, Fits}
use Rattle.laws.proofs.Keeps.{winds-saved, at_rest}
use Rattle.laws.proofs.Steps.{Reached, Good, acts_of, good_course, start_reached}

-- what holds of the states that can be reached holds of every course from the start
from_start : (l : Limits) (code : List Instruction) (numbers : List ℤ) (n : ℕ)
    → Good l (start numbers) (course l code n (start numbers)).steps (course l code n (start numbers)).state (course l code n (start numbers)).trail
from_start l code numbers n = good_course l code n (start numbers) (start_reached l numbers)

pub counts-conserved : CountsConserved
counts-conserved l code numbers n = (from_start l code numbers n).0.sound.conserved

pub counts_within_steps : CountsWithinSteps
counts_within_steps l code numbers n = let g = from_start l code numbers n in (omega (arith, g.1.steps), g.0.counts)

pub all_names_made : AllNamesMade
all_names_made l code numbers n = (from_start l code numbers n).0.sound.known

pub limits-kept : LimitsKept
limits-kept l code numbers n = (from_start l code numbers n).0.within

-- a number in force stands there, and any other does not
count_in : (k : ℕ) (ws : List Wind) → InForce k ws → 1 ≤ count k (wind_numbers ws)
count_in k (w ∷ ws) (inl e) = rw (eq-eqb (wind_number w) k e) (omega arith)
count_in k (w ∷ ws) (inr h) = omega (arith, count_in k ws h)
count_in k [] h = absurd h

count_out : (k : ℕ) (ws : List Wind) → (InForce k ws → ⊥) → count k (wind_numbers ws) ≡ 0
count_out k [] h = refl
count_out k (w ∷ ws) h = rw (ne_eqb (wind_number w) k (λ e. h (inl e))) (omega (arith, count_out k ws (λ i. h (inr i))))

pub winds-balanced : WindsBalanced
winds-balanced l code numbers n =
    let r : Course = course l code n (start numbers) in
    let g : Good l (start numbers) r.steps r.state r.trail = from_start l code numbers n in
    record {
      in_force = λ k i. let e = g.1.each k in let a = count_in k r.state.winds i in let b = (g.0.sound.winds k).0 in omega arith;
      elsewhere = λ k i. let e = g.1.each k in let a = count_out k r.state.winds i in omega arith;
      entered = let e = g.1.entered in omega arith;
      left = let e = g.1.left in omega arith;
    }

-- Never reached.

module _ (l : Limits) (s : State) (k : Reached l s) where
  out_finds_wind : (fs : List Frame) → s.mode ≡ Returning → s.frames ≡ Out ∷ fs → SomeWind s
  out_finds_wind fs e f =
      let fits = rw (e, f) at k.sound.fits in
      go s.winds refl fits
    where
      go : (ws : List Wind) → s.winds ≡ ws → Fits s.held (Out ∷ fs) (wind_numbers ws) → SomeWind s
      go [] g h = absurd h
      go (w ∷ ws) g h = (w, ws, g)

  -- a plan that does not end with 32
  abbrev Found : Plan → Type 0
  Found p = p ≡ Err WrongFrame → ⊥

  found_checked : {A : Type 0} (m : Checked A) (f : A → Plan) → (m ≡ Err WrongFrame → ⊥) → ((a : A) → Found (f a)) → Found (m >>= f)
  found_checked (Ok a) f h k = k a
  found_checked (Err e) f h k = λ p. h (let i : e ≡ WrongFrame = cc in ap Err i)

  found-act : (a : Act) → Found (does a)
  found-act a p = cc

  found-top : (ws : List Wind) (k : ℕ) → k < length ws → top_wind ws ≡ Err WrongFrame → ⊥
  found-top [] k h e = omega arith
  found-top (w ∷ ws) k h e = cc

  found-held : (o : Option Capture) → ok_or o NotHeld ≡ Err WrongFrame → ⊥
  found-held None e = cc
  found-held (Some c) e = cc

  found-unwind : (n : Name) (v : Value) (c : Capture) (b : Bool) (o : Option Wind) → ltb (shared s.winds c.winds) (length s.winds) ≡ b → Found (unwind b o c n v s)
  found-unwind n v c true o e = found_checked (top_wind s.winds) _ (found-top s.winds _ (ltb-true _ _ e)) (λ w. found-act _)
  found-unwind n v c false (Some w) e = found-act _
  found-unwind n v c false None e = found-act _

  throw_finds_wind : (code : List Instruction) (n : Name) (v : Value) → s.mode ≡ Throwing n v → plan code s ≡ Err WrongFrame → ⊥
  throw_finds_wind code n v e p =
      let P : Mode → Type 0 = λ m. plan_in m code s ≡ Err WrongFrame in
      found_checked (held_under s.held n) _ (found-held (find capture_name s.held n.0)) (λ c. found-unwind n v c _ _ refl) (subst P e p)

  -- a wind that is entered again has its place
  abbrev Placed : WindMove → Type 0
  Placed Stay = Unit {0}
  Placed (Open before after) = Unit {0}
  Placed (Reenter w) = length s.winds < l.winds
  Placed Leave = Unit {0}

  placed_again : (n : ℕ) (c : Capture) (next : Option Wind) → find capture_name s.held n ≡ Some c → wind_at c.winds (length s.winds) ≡ next → Placed (again next)
  placed_again n c None e f = tt
  placed_again n c (Some w) e f =
      let a = slice_get_within (reverse c.winds) (length s.winds) w f in
      let b = length-reverse c.winds in
      let d = (find-all capture_name (λ (c : Capture). (length c.frames ≤ l.frames) × (length c.winds ≤ l.winds)) s.held n c e k.within.saved).1 in omega arith

  placed_rested : (a : Act) → Rested s a → Placed a.winds
  placed_rested a (writes w m line x y) = tt
  placed_rested a (pushes f p x y) = tt
  placed_rested a (pushes_both f g p x y z u) = tt
  placed_rested a (pops_one f fs w m e x y z) = tt
  placed_rested a (passes_mark n c fs e f) = tt
  placed_rested a (captures-many p q) = tt
  placed_rested a (captures-once p q) = tt
  placed_rested a (forgets n c p f) = tt
  placed_rested a (opens before body then fs e) = tt
  placed_rested a (closes w ws fs e f x) = tt
  placed_rested a (tosses n v fs e x) = tt
  placed_rested a (reenters n v fs c next e f g x) = placed_again n.0 c next f g

  placed_thrown : (n : Name) (v : Value) (a : Act) → Thrown s n v a → Placed a.winds
  placed_thrown n v a (throws_out c w ws e f) = tt
  placed_thrown n v a (throws_in c w e u) = tt
  placed_thrown n v a (lands c e u z) = tt

  placed : (a : Act) → Planned s a → Placed a.winds
  placed a (rested q p) = placed_rested a p
  placed a (thrown n v m p) = placed_thrown n v a p

  reentry_has_place : (code : List Instruction) (a : Act) (w : Wind) → plan code s ≡ Ok (Some a) → a.winds ≡ Reenter w → length s.winds < l.winds
  reentry_has_place code a w p e =
      let h = placed a (acts_of (Planned s) (plan code s) a p (planned s k.sound.known code)) in
      rw e at h

  plan_ends : (code : List Instruction) (e : End) → plan code s ≡ Err e → PlanEnd e
  plan_ends code e p = let h = planned s k.sound.known code in rw p at h

  unreached : Unreached l s
  unreached = record {
    out_finds_wind = out_finds_wind;
    throw_finds_wind = throw_finds_wind;
    reentry_has_place = reentry_has_place;
    plan_ends = plan_ends;
    next_name_free = find_none capture_name s.held (s.counts.made + 1) ((k.sound.names (s.counts.made + 1)).1 (omega arith));
  }

-- Which winds are in force.

bodies-winds : (held : List Capture) (fs : List Frame) (ws : List ℕ) → Fits held fs ws → NoThrow fs → length ws ≡ bodies fs
bodies-winds held [] [] h p = refl
bodies-winds held [] (w ∷ ws) h p = absurd h
bodies-winds held (Saved v ∷ fs) ws h p = bodies-winds held fs ws h p
bodies-winds held (Back q ∷ fs) ws h p = bodies-winds held fs ws h p
bodies-winds held (Mark n ∷ fs) ws h p = bodies-winds held fs ws h p
bodies-winds held (In before body then ∷ fs) ws h p = bodies-winds held fs ws h p
bodies-winds held (Out ∷ fs) [] h p = absurd h
bodies-winds held (Out ∷ fs) (w ∷ ws) h p = ap suc (bodies-winds held fs ws h p)
bodies-winds held (Hold v ∷ fs) ws h p = bodies-winds held fs ws h p
bodies-winds held (Toss n v ∷ fs) ws h p = absurd p
bodies-winds held (Enter n v ∷ fs) ws h p = absurd p

module _ (s : State) (k : Sound s) where
  -- the winds in force are those saved, where frames are restored
  abbrev Landed : FrameMove → Type 0
  Landed Keep = Unit {0}
  Landed (Push f) = Unit {0}
  Landed (PushBoth f g) = Unit {0}
  Landed Pop = Unit {0}
  Landed (Replace f) = Unit {0}
  Landed (Restore n) = (c : Capture) → find capture_name s.held n.0 ≡ Some c → wind_numbers s.winds ≡ wind_numbers c.winds

  landed_rested : (a : Act) → Rested s a → Landed a.frames
  landed_rested a (writes w m line x y) = tt
  landed_rested a (pushes f p x y) = tt
  landed_rested a (pushes_both f g p x y z u) = tt
  landed_rested a (pops_one f fs w m e x y z) = tt
  landed_rested a (passes_mark n c fs e f) = tt
  landed_rested a (captures-many p q) = tt
  landed_rested a (captures-once p q) = tt
  landed_rested a (forgets n c p f) = tt
  landed_rested a (opens before body then fs e) = tt
  landed_rested a (closes w ws fs e f x) = tt
  landed_rested a (tosses n v fs e x) = tt
  landed_rested a (reenters n v fs c next e f g x) = tt

  landed : (a : Act) → Planned s a → Landed a.frames
  landed a (rested q p) = landed_rested a p
  landed a (thrown n v m (throws_out c w ws e f)) = tt
  landed a (thrown n v m (throws_in c w e u)) = tt
  landed a (thrown n v m (lands c e u z)) = λ d f.
      let i : c ≡ d = cc in
      cc (i, winds-saved s k n c e u z)

  winds_stand : WindsStand s
  winds_stand = record {
    as_bodies = λ q p.
        sym (length-map s.winds wind_number) ∙ bodies-winds s.held s.frames (wind_numbers s.winds) (at_rest s k s.mode _ q k.fits) p;
    as_saved = λ code a n c p e f.
        let h = landed a (acts_of (Planned s) (plan code s) a p (planned s k.known code)) in
        let landed_there = rw e at h in
        landed_there c f;
  }

pub right-winds : RightWinds
right-winds l code numbers n = winds_stand (course l code n (start numbers)).state (from_start l code numbers n).0.sound

pub never_reached : NeverReached
never_reached l code numbers n = unreached l (course l code n (start numbers)).state (from_start l code numbers n).0
