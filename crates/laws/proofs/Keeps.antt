-- Each act that is planned in a sound state meets what it has to, so each step leads from a sound state to a sound one.
use Rattle.std.proofs.Common.{◌≡◌, ℕ, ◌≤◌, List, [], ◌∷◌, ◌++◌, reverse, length, Some, None, Option, sym, ap, ◌∙◌, arith}
use mathlib.Core.List.{reverse-cons, reverse-reverse}
use Rattle.std.proofs.lemmas.List.{length-map, length-reverse}
use Rattle.std.specs.List.{slice_get, AllByRecursion as All}
use Rattle.std.specs.Option.{option_map}
use Rattle.std.proofs.lemmas.Option.{slice_get-map}
use Rattle.std.proofs.lemmas.Bool.{cond_both}
use Rattle.cell.specs.declared.name.Name.{Name}
use Rattle.cell.specs.declared.value.Value.{Value}
use Rattle.cell.specs.declared.frame.Frame.{Frame}
use Rattle.cell.specs.declared.frame.Frame.TheVariants.{Saved, Back, Mark, In, Out, Hold, Toss, Enter}
use Rattle.cell.specs.declared.wind.Wind.{Wind}
use Rattle.machine.specs.declared.act.Act.{Act}
use Rattle.machine.specs.declared.frame_move.FrameMove.TheVariants.{Pop, Restore}
use Rattle.machine.specs.declared.wind_move.WindMove.TheVariants.{Open}
use Rattle.machine.specs.declared.name_move.NameMove.TheVariants.{Keep as KeepNames, Use}
use Rattle.machine.specs.declared.mode.Mode.{Mode}
use Rattle.machine.specs.declared.mode.Mode.TheVariants.{Going, Returning, Throwing}
use Rattle.machine.specs.State.{State, Capture, capture_name, wind_number, wind_numbers}
use Rattle.machine.specs.Names.{mode_names}
use Rattle.machine.specs.Going.{reg, zeroth}
use Rattle.machine.specs.Returning.{spends, wind_at, again}
use Rattle.machine.specs.Throwing.{shared, common}
use Rattle.machine.specs.Apply.{below, replaced, frames_after, winds_after}
use Rattle.laws.specs.Counts.{Made}
use Rattle.laws.specs.Reached.{AtRest}
use Rattle.laws.proofs.Counting.{Numbered, numbered_less, count-reverse, Prefix, prefix_count, prefix_next, prefix_common, same-common, map-reverse}
use Rattle.laws.proofs.Named.{find-all}
use Rattle.laws.proofs.Frames.{Passed, walk_push, walk_pop}
use Rattle.laws.proofs.Planned.{Planned, rested, thrown, Rested, writes, pushes, pushes_both, pops_one, passes_mark, captures-many, captures-once, forgets, opens, closes, tosses, reenters, Thrown, throws_out, throws_in, lands, Holds}
use Rattle.laws.proofs.Sound.{Entering, NoneLeft, Fits, Rests, CaptureSound, Sound, Owned, Entered, EntersMade, Legal, still}

passed_enters : (s : State) (f : Frame) → Passed f → EntersMade s f
passed_enters s (Saved v) p = tt
passed_enters s (Back q) p = tt
passed_enters s (Mark n) p = tt
passed_enters s (In before body then) p = tt
passed_enters s Out p = tt
passed_enters s (Hold v) p = tt
passed_enters s (Toss n v) p = absurd p
passed_enters s (Enter n v) p = absurd p

rests : (m : Mode) (P : Type 0) → P → Rests m P
rests (Going p) P h = h
rests Returning P h = h
rests (Throwing n v) P h = tt

module _ (s : State) (k : Sound s) where
  abbrev pub here : List ℕ
  here = wind_numbers s.winds

  abbrev Stands : List Frame → List ℕ → Type 0
  Stands fs ws = Fits s.held fs ws

  -- the frames below the top one, and with another on top
  popped : {f : Frame} {fs : List Frame} (ws : List ℕ) → s.frames ≡ f ∷ fs → Stands fs ws → Stands (below s.frames) ws
  popped ws e h = rw e h

  swapped : {f : Frame} {fs : List Frame} (g : Frame) (ws : List ℕ) → s.frames ≡ f ∷ fs → Stands (g ∷ fs) ws → Stands (replaced g s.frames) ws
  swapped g ws e h = rw e h

  on_top : {f : Frame} {fs : List Frame} (ws : List ℕ) → s.frames ≡ f ∷ fs → Stands s.frames ws → Stands (f ∷ fs) ws
  on_top ws e h = rw e at h

  -- a name that is spent was held
  owned_spends : (fs : List Frame) (n : Name) (c : Capture) → Holds s n c → Owned s fs (spends c n)
  owned_spends fs n c e = cond_both c.once (Use n) KeepNames (Owned s fs) (λ f. (c, e)) (λ f. tt)

  -- the body's Out takes its wind away
  out_fits : (fs : List Frame) (w : Wind) (ws : List Wind) → s.winds ≡ w ∷ ws → Stands (Out ∷ fs) here → Stands fs (wind_numbers (below s.winds))
  out_fits fs w ws e h =
      let there = rw e at h in
      rw e there

  -- a captured list of winds has each number once
  saved-winds : (n : Name) (c : Capture) → Holds s n c → CaptureSound s.counts.numbered s.held c
  saved-winds n c e = find-all capture_name _ s.held n.0 c e k.captures

  -- the next saved wind is none of those in force
  entered-again : (n : Name) (c : Capture) (w : Wind) → Holds s n c → Prefix (reverse here) (reverse (wind_numbers c.winds)) → wind_at c.winds (length s.winds) ≡ Some w
      → Numbered s.counts.numbered (wind_number w ∷ here)
  entered-again n c w e p f =
      let us : List ℕ = wind_numbers c.winds in
      let len : length (reverse here) ≡ length s.winds = length-reverse here ∙ length-map s.winds wind_number in
      let at : slice_get (reverse us) (length (reverse here)) ≡ Some (wind_number w) =
      ap (λ i. slice_get (reverse us) i) len ∙ ap (λ xs. slice_get xs (length s.winds)) (sym (map-reverse wind_number c.winds)) ∙ slice_get-map wind_number (reverse c.winds) (length s.winds) ∙ ap (option_map wind_number) f in
      let q : Prefix (reverse here ++ (wind_number w ∷ [])) (reverse us) = prefix_next (reverse here) (reverse us) (wind_number w) p at in
      let q' : Prefix (reverse (wind_number w ∷ here)) (reverse us) = rw reverse-cons q in
      numbered_less s.counts.numbered (wind_number w ∷ here) us
      (λ j. let a = prefix_count j (reverse (wind_number w ∷ here)) (reverse us) q' in let b = count-reverse j (wind_number w ∷ here) in let d = count-reverse j us in omega arith)
      (saved-winds n c e).winds

  again-entered : (n : Name) (v : Value) (fs : List Frame) (c : Capture) (next : Option Wind) → Holds s n c → wind_at c.winds (length s.winds) ≡ next
      → Stands (Enter n v ∷ fs) here → Entered s (again next)
  again-entered n v fs c None e f h = tt
  again-entered n v fs c (Some w) e f h = entered-again n c w e (h c e) f

  -- if no wind has to be left, the winds in force begin the saved ones
  module _ (n : Name) (c : Capture) (e : Holds s n c) (u : length s.winds ≤ shared s.winds c.winds) where
    deep : length (reverse here) ≤ common (reverse here) (reverse (wind_numbers c.winds))
    deep = let len : length (reverse here) ≡ length s.winds = length-reverse here ∙ length-map s.winds wind_number in omega arith

    enter_fits : (v : Value) (fs : List Frame) → Stands (Enter n v ∷ fs) here
    enter_fits v fs d f =
        let i : c ≡ d = cc in
        rw (← i) (prefix_common (reverse here) (reverse (wind_numbers c.winds)) deep)

    -- and if none has to be entered, they are the saved ones
    pub winds-saved : wind_at c.winds (shared s.winds c.winds) ≡ None → here ≡ wind_numbers c.winds
    winds-saved z =
        let us : List ℕ = wind_numbers c.winds in
        let none : slice_get (reverse us) (shared s.winds c.winds) ≡ None =
        ap (λ xs. slice_get xs (shared s.winds c.winds)) (sym (map-reverse wind_number c.winds)) ∙ slice_get-map wind_number (reverse c.winds) (shared s.winds c.winds) ∙ ap (option_map wind_number) z in
        let b : reverse here ≡ reverse us = same-common (reverse here) (reverse us) deep none in
        sym (reverse-reverse here) ∙ ap reverse b ∙ reverse-reverse us

    restored-fits : wind_at c.winds (shared s.winds c.winds) ≡ None → Stands (frames_after s (Restore n)) here
    restored-fits z =
        rw (e, winds-saved z) (saved-winds n c e).frames

  -- what an act does not touch stays as it is
  legal_rested : (a : Act) → Rested s a → Stands s.frames here → Legal s a
  legal_rested a (writes w m line x y) h = record { owned = tt; entered = tt; fits = rests m _ h; written = x; pushes = tt; enters = tt; mode = y }
  legal_rested a (pushes f p x y) h =
      record { owned = tt; entered = tt; fits = walk_push NoneLeft (Entering s.held) f s.frames here x h; written = tt; pushes = (y, tt); enters = (passed_enters s f x, tt); mode = tt }
  legal_rested a (pushes_both f g p x y z u) h = record {
    owned = tt;
    entered = tt;
    fits = walk_push NoneLeft (Entering s.held) g (f ∷ s.frames) here y (walk_push NoneLeft (Entering s.held) f s.frames here x h);
    written = tt;
    pushes = (u, (z, tt));
    enters = (passed_enters s g y, (passed_enters s f x, tt));
    mode = tt;
  }
  legal_rested a (pops_one f fs w m e x y z) h =
      record { owned = tt; entered = tt; fits = rests m _ (popped here e (walk_pop NoneLeft (Entering s.held) f fs here x (on_top here e h))); written = y; pushes = tt; enters = tt; mode = z }
  legal_rested a (passes_mark n c fs e f) h =
      record { owned = owned_spends (frames_after s Pop) n c f; entered = tt; fits = popped here e (on_top here e h); written = tt; pushes = tt; enters = tt; mode = tt }
  legal_rested a (captures-many p q) h = record { owned = h; entered = tt; fits = h; written = (omega arith, tt); pushes = (tt, tt); enters = (tt, tt); mode = tt }
  legal_rested a (captures-once p q) h =
      record { owned = h; entered = tt; fits = h; written = (omega arith, tt); pushes = ((omega arith, tt), (tt, tt)); enters = (tt, (tt, tt)); mode = tt }
  legal_rested a (forgets n c p f) h = record { owned = (c, f); entered = tt; fits = h; written = tt; pushes = tt; enters = tt; mode = tt }
  legal_rested a (opens before body then fs e) h =
      record { owned = tt; entered = tt; fits = swapped Out (wind_numbers (winds_after s (Open before then))) e (on_top here e h); written = tt; pushes = (tt, tt); enters = (tt, tt); mode = tt }
  legal_rested a (closes w ws fs e f x) h = record {
    owned = tt;
    entered = (w, ws, f);
    fits = swapped (Hold (reg s zeroth)) (wind_numbers (below s.winds)) e (out_fits fs w ws f (on_top here e h));
    written = tt;
    pushes = (x, tt);
    enters = (tt, tt);
    mode = tt;
  }
  legal_rested a (tosses n v fs e x) h = record { owned = tt; entered = tt; fits = tt; written = tt; pushes = tt; enters = tt; mode = x }
  legal_rested a (reenters n v fs c next e f g x) h =
      record { owned = tt; entered = again-entered n v fs c next f g (on_top here e h); fits = tt; written = tt; pushes = tt; enters = tt; mode = x }

  legal_thrown : (n : Name) (v : Value) (a : Act) → All (Made s) (mode_names (Throwing n v)) → Thrown s n v a → Legal s a
  legal_thrown n v a m (throws_out c w ws e f) = record { owned = tt; entered = (w, ws, f); fits = tt; written = tt; pushes = (m, tt); enters = (tt, tt); mode = tt }
  legal_thrown n v a m (throws_in c w e u) = record { owned = tt; entered = tt; fits = enter_fits n c e u v s.frames; written = tt; pushes = (m, tt); enters = (m.0, tt); mode = tt }
  legal_thrown n v a m (lands c e u z) = record {
    owned = owned_spends (frames_after s (Restore n)) n c e;
    entered = tt;
    fits = restored-fits n c e u z;
    written = still s (spends c n) _ m.1;
    pushes = tt;
    enters = tt;
    mode = tt;
  }

  pub at_rest : (m : Mode) (P : Type 0) → AtRest m → Rests m P → P
  at_rest (Going p) P q h = h
  at_rest Returning P q h = h
  at_rest (Throwing n v) P q h = absurd q

  pub legal : (a : Act) → Planned s a → Legal s a
  legal a (rested q p) = legal_rested a p (at_rest s.mode _ q k.fits)
  legal a (thrown n v m p) = legal_thrown n v a m p
