-- An act carried out on the parts of an engine is the machine's act.
use Rattle.std.proofs.Common.{◌≡◌, ◌+◌, ◌≤◌, true, false, ltb, eqb, List, [], ◌∷◌, ◌++◌, length, ℤ, None, sym, refl, ap, ◌∙◌, ne_eqb, arith}
use Rattle.std.proofs.lemmas.List.{length-reverse}
use Rattle.cell.specs.declared.address.Address.{Address}
use Rattle.cell.specs.declared.name.Name.{Name}
use Rattle.cell.specs.declared.frame.Frame.{Frame}
use Rattle.cell.specs.declared.wind.Wind.{Wind}
use Rattle.machine.specs.declared.act.Act.{Act}
use Rattle.machine.specs.declared.end.End.TheVariants.{FrameLimit, WindLimit}
use Rattle.machine.specs.declared.mode.Mode.{Mode}
use Rattle.machine.specs.declared.write.Write.{Write}
use Rattle.machine.specs.declared.frame_move.FrameMove.TheVariants.{Keep, Push, PushBoth, Pop, Replace, Restore}
use Rattle.machine.specs.declared.wind_move.WindMove.TheVariants.{Open, Reenter, Leave}
use Rattle.machine.specs.declared.name_move.NameMove.TheVariants.{SaveMany, SaveOnce, Use, Forget}
use Rattle.machine.specs.Acts.{moves, writing, framing, winding, naming, printing}
use Rattle.machine.specs.Admission.{frames_pass, first_refusal, refusal}
use Rattle.machine.specs.Apply.{below, replaced, saved_frames, new_wind, promoted}
use Rattle.machine.specs.Going.{next_name}
use Rattle.machine.specs.Named.{find, without}
use Rattle.machine.specs.State.{State, Capture, Limits, capture_name}
use Rattle.machine.specs.Step.{admit}
use Rattle.engine.specs.Parts.{Parts, state_from, limits_from}
use Rattle.engine.specs.Acting as Acting
use Rattle.engine.specs.Acting.{Carried, ◌then◌, pushing, popping, replacing, entering, leaving, restoring, taking, holding_many, holding_once, frame_room, release, fresh, idle, acting}
use Rattle.engine.specs.declared.step.Step.{Step}
use Rattle.faithful.proofs.Facts.{Facts}
use Rattle.faithful.proofs.Follows.{Follows}
use Rattle.faithful.proofs.Legal.{SomeFrame, SomeWind, IsHeld, Legal}
use Rattle.faithful.proofs.Legal.Legal.{plain, prints, pushes, pushes_both, pops, opens, closes, throws_out, reenters, saves_many, saves_once, forgets, uses, lands, lands_using}
use Rattle.faithful.proofs.ActsStages.{after, after_both, gate, Stands, begins}
use Rattle.faithful.proofs.ActsCounts.{up-is}
use Rattle.faithful.proofs.PlansNames.{looked}
use Rattle.faithful.proofs.ActsNames.{unnamed}
use Rattle.faithful.proofs.ActsMoves as Moves
use Rattle.faithful.proofs.ActsRooms.{push_checks, enter_checks, frame_room_checks, room_gate}
use Rattle.faithful.proofs.ActsHeld.{took, restores, releases, takes, holds_once, holds_many}
use Rattle.faithful.proofs.ActsEnds.{ends}

-- an act is carried out as the machine tells it
abbrev Done : Parts → Act → Type 0
Done p a = Follows p (admit (state_from p) a (refusal (limits_from p) (state_from p) a)) (acting a.line a p)

module _ (p : Parts) (h : Facts p) where
  abbrev s : State
  s = state_from p

  abbrev l : Limits
  l = limits_from p

  abbrev At : List Frame → List Wind → List Capture → Parts → Type 0
  At fs ws cs r = Stands p r fs ws cs

  within : length s.frames ≤ p.frames.depth_limit
  within = rw (length-reverse p.frames.current) h.within

  start : At s.frames s.winds s.held p
  start = begins p h.together

  -- An act for each shape.

  writes : (w : Write) (m : Mode) → Done p (writing w (moves m))
  writes w m = ends start (writing w (moves m)) refl h.small refl refl refl

  tells : (z : ℤ) (m : Mode) → Done p (printing z (moves m))
  tells z m = (refl, refl, (ends start (moves m) refl h.small refl refl refl).1)

  -- a push, and then something else
  pushed : (f : Frame) (next : Parts → Carried Step) (a : Act)
      → ((r : Parts) → At (f ∷ s.frames) s.winds s.held r → Follows p (admit s a None) (next r))
      → Follows p (admit s a (first_refusal l (frames_pass l s 1) true true)) (pushing f p then next)
  pushed f next a = gate (At (f ∷ s.frames) s.winds s.held) (pushing f p) p (λ b. admit s a (first_refusal l b true true)) (frames_pass l s 1) (FrameLimit l.frames_level) next refl (push_checks p h.together f)

  -- a wind is entered, and then something else
  entered : (w : Wind) (next : Parts → Carried Step) (a : Act)
      → ((r : Parts) → At s.frames (w ∷ s.winds) s.held r → Follows p (admit s a None) (next r))
      → Follows p (admit s a (first_refusal l true (ltb (length s.winds) l.winds) true)) (entering w p then next)
  entered w next a = gate (At s.frames (w ∷ s.winds) s.held) (entering w p) p (λ b. admit s a (first_refusal l true b true)) (ltb (length s.winds) l.winds) (WindLimit l.winds_level) next refl (enter_checks p h.together w)

  one : (f : Frame) (m : Mode) → Done p (framing (Push f) (moves m))
  one f m =
      let a : Act = framing (Push f) (moves m) in
      pushed f _ a (λ r i. ends i a refl h.small refl refl refl)

  both : (f g : Frame) (m : Mode) → Done p (framing (PushBoth f g) (moves m))
  both f g m =
      let a : Act = framing (PushBoth f g) (moves m) in
      let o = admit s a None in
      gate (λ r. (r ≡ p) × (length s.frames + 2 ≤ l.frames)) (frame_room 2 p) p (λ b. admit s a (first_refusal l b true true)) (frames_pass l s 2) (FrameLimit l.frames_level) _ refl (frame_room_checks p h.together 1)
      (λ r k. rw k.0
      (after (At (f ∷ s.frames) s.winds s.held) (pushing f p) (Follows p o) _ (Moves.pushes start f (omega (arith, k.1)))
      (λ r i. after (At (g ∷ f ∷ s.frames) s.winds s.held) (pushing g r) (Follows p o) _ (Moves.pushes i g (omega (arith, k.1)))
      (λ r i. ends i a refl h.small refl refl refl))))

  dropped : (w : Write) (m : Mode) → SomeFrame p → Done p (framing Pop (writing w (moves m)))
  dropped w m (f, fs, e) =
      let a : Act = framing Pop (writing w (moves m)) in
      after (At fs s.winds s.held) (popping p then idle) (Follows p (admit s a None)) _ (Moves.drops start f fs e)
      (λ r i. ends i a refl h.small (sym (ap below e)) refl refl)

  -- Winds.

  opened : (before after' : Address) (f : Frame) (m : Mode) → SomeFrame p → Done p (winding (Open before after') (framing (Replace f) (moves m)))
  opened before after' f m (g, gs, e) =
      let a : Act = winding (Open before after') (framing (Replace f) (moves m)) in
      let w : Wind = Acting.new_wind p before after' in
      let same : w ≡ new_wind s before after' = ap {B = Wind} (λ n. record { number = record { 0 = n }; before = before; after = after' }) (up-is p.counts.numbered h.small.numbered) in
      entered w _ a
      (λ q i. after (At (f ∷ gs) (w ∷ s.winds) s.held) (replacing f q) (Follows p (admit s a None)) _ (Moves.replaces i f g gs e within)
      (λ r i. ends i a refl h.small (sym (ap (replaced f) e)) (ap (λ w. w ∷ s.winds) same) refl))

  closed : (f : Frame) (m : Mode) → SomeFrame p → SomeWind p → Done p (winding Leave (framing (Replace f) (moves m)))
  closed f m (g, gs, e) (w, ws, d) =
      let a : Act = winding Leave (framing (Replace f) (moves m)) in
      after (At (f ∷ gs) s.winds s.held) (replacing f p) (Follows p (admit s a None)) _ (Moves.replaces start f g gs e within)
      (λ q i. after (At (f ∷ gs) ws s.held) (leaving q then idle) (Follows p (admit s a None)) _ (Moves.quits i w ws d)
      (λ r i. ends i a refl h.small (sym (ap (replaced f) e)) (sym (ap below d)) refl))

  left : (f : Frame) (m : Mode) → SomeWind p → Done p (winding Leave (framing (Push f) (moves m)))
  left f m (w, ws, d) =
      let a : Act = winding Leave (framing (Push f) (moves m)) in
      pushed f _ a
      (λ q i. after (At (f ∷ s.frames) ws s.held) (leaving q then idle) (Follows p (admit s a None)) _ (Moves.quits i w ws d)
      (λ r i. ends i a refl h.small refl (sym (ap below d)) refl))

  reentered : (w : Wind) (m : Mode) → SomeFrame p → Done p (winding (Reenter w) (framing Pop (moves m)))
  reentered w m (f, fs, e) =
      let a : Act = winding (Reenter w) (framing Pop (moves m)) in
      entered w _ a
      (λ q i. after (At fs (w ∷ s.winds) s.held) (popping q then idle) (Follows p (admit s a None)) _ (Moves.drops i f fs e)
      (λ r i. ends i a refl h.small (sym (ap below e)) refl refl))

  -- Names.

  -- the next name is free, and is not 0
  abbrev n : Name
  n = fresh p

  next-is : n ≡ next_name s
  next-is = ap {B = Name} (λ k. record { 0 = k }) (up-is p.counts.made h.small.made)

  n-free : find capture_name s.held n.0 ≡ None
  n-free =
      ap (find capture_name s.held) (up-is p.counts.made h.small.made)
      ∙ unnamed (p.counts.made + 1) p.frames.held p.winds.held p.rows (looked (p.counts.made + 1) p.frames.held p.winds.held p.rows h.together) h.free

  n-positive : eqb n.0 0 ≡ false
  n-positive = ap (λ k. eqb k 0) (up-is p.counts.made h.small.made) ∙ ne_eqb (p.counts.made + 1) 0 (λ e. omega arith)

  many : (f : Frame) (w : Write) (m : Mode) → Done p (naming SaveMany (writing w (framing (Push f) (moves m))))
  many f w m =
      let a : Act = naming SaveMany (writing w (framing (Push f) (moves m))) in
      let o = admit s a None in
      let fs : List Frame = f ∷ s.frames in
      let cs : List Capture = promoted fs s.held ++ (took n false fs s.winds ∷ []) in
      room_gate p h.together 0 (λ x y. admit s a (first_refusal l x true y)) _ (λ y. refl) refl
      (λ k c. after (At fs s.winds s.held) (pushing f p) (Follows p o) _ (Moves.pushes start f (omega (arith, k)))
      (λ q i. after (At fs s.winds cs) (holding_many n q) (Follows p o) _ (holds_many i n n-free n-positive c)
      (λ r i. ends i a refl h.small refl refl (ap (λ n. promoted fs s.held ++ (took n false fs s.winds ∷ [])) next-is))))

  once : (f g : Frame) (w : Write) (m : Mode) → Done p (naming SaveOnce (writing w (framing (PushBoth f g) (moves m))))
  once f g w m =
      let a : Act = naming SaveOnce (writing w (framing (PushBoth f g) (moves m))) in
      let o = admit s a None in
      let fs : List Frame = f ∷ s.frames in
      let cs : List Capture = s.held ++ (took n true fs s.winds ∷ []) in
      room_gate p h.together 1 (λ x y. admit s a (first_refusal l x true y)) _ (λ y. refl) refl
      (λ k c. after (At fs s.winds s.held) (pushing f p) (Follows p o) _ (Moves.pushes start f (omega (arith, k)))
      (λ q i. after (At fs s.winds cs) (holding_once n q) (Follows p o) _ (holds_once i n n-free n-positive c)
      (λ q i. after (At (g ∷ fs) s.winds cs) (pushing g q) (Follows p o) _ (Moves.pushes i g (omega (arith, k)))
      (λ r i. ends i a refl h.small refl refl (ap (λ n. s.held ++ (took n true fs s.winds ∷ [])) next-is)))))

  forgotten : (n : Name) (m : Mode) → IsHeld p n → Done p (naming (Forget n) (moves m))
  forgotten n m (c, e) =
      let a : Act = naming (Forget n) (moves m) in
      let cs : List Capture = without capture_name s.held n.0 in
      after (At s.frames s.winds cs) (release Keep n p) (Follows p (admit s a None)) _ (releases start n c e)
      (λ r i. ends i a refl h.small refl refl refl)

  used : (n : Name) (m : Mode) → IsHeld p n → SomeFrame p → Done p (naming (Use n) (framing Pop (moves m)))
  used n m (c, e) (f, fs, d) =
      let a : Act = naming (Use n) (framing Pop (moves m)) in
      let cs : List Capture = without capture_name s.held n.0 in
      after (At fs s.winds s.held) (popping p then idle) (Follows p (admit s a None)) _ (Moves.drops start f fs d)
      (λ q i. after (At fs s.winds cs) (release Keep n q) (Follows p (admit s a None)) _ (releases i n c e)
      (λ r i. ends i a refl h.small (sym (ap below d)) refl refl))

  landed : (n : Name) (w : Write) (m : Mode) → IsHeld p n → Done p (writing w (framing (Restore n) (moves m)))
  landed n w m (c, e) =
      let a : Act = writing w (framing (Restore n) (moves m)) in
      after (At c.frames s.winds s.held) (restoring n p) (Follows p (admit s a None)) _ (restores start n c e)
      (λ r i. ends i a refl h.small (sym (ap (λ o. saved_frames o s.frames) e)) refl refl)

  landed_using : (n : Name) (w : Write) (m : Mode) → IsHeld p n → Done p (writing w (naming (Use n) (framing (Restore n) (moves m))))
  landed_using n w m (c, e) =
      let a : Act = writing w (naming (Use n) (framing (Restore n) (moves m))) in
      let cs : List Capture = without capture_name s.held n.0 in
      after_both (At c.frames s.winds cs) (taking n p) (release (Restore n) n) (Follows p (admit s a None)) _ (takes start n c e)
      (λ r i. ends i a refl h.small (sym (ap (λ o. saved_frames o s.frames) e)) refl refl)

-- every act of a plan
pub act_follows : (p : Parts) (a : Act) → Facts p → Legal p a → Follows p (admit (state_from p) a (refusal (limits_from p) (state_from p) a)) (acting a.line a p)
act_follows p a h (plain w m) = writes p h w m
act_follows p a h (prints z m) = tells p h z m
act_follows p a h (pushes f m) = one p h f m
act_follows p a h (pushes_both f g m) = both p h f g m
act_follows p a h (pops w m x) = dropped p h w m x
act_follows p a h (opens before after f m x) = opened p h before after f m x
act_follows p a h (closes f m x y) = closed p h f m x y
act_follows p a h (throws_out f m y) = left p h f m y
act_follows p a h (reenters w m x) = reentered p h w m x
act_follows p a h (saves_many f w m) = many p h f w m
act_follows p a h (saves_once f g w m) = once p h f g w m
act_follows p a h (forgets n m c) = forgotten p h n m c
act_follows p a h (uses n m c x) = used p h n m c x
act_follows p a h (lands n w m c) = landed p h n w m c
act_follows p a h (lands_using n w m c) = landed_using p h n w m c
