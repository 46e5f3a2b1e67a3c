-- What a limit may refuse: each passes exactly if the machine's test of it does.
use Rattle.std.proofs.Common.{◌≡◌, ℕ, suc, ◌+◌, ◌<◌, ◌≤◌, Bool, true, false, cond, leb, ltb, ◌∷◌, length, Ok, Err, refl, le-leb, leb-false, leb-true, ltb-true, arith}
use Rattle.std.proofs.lemmas.List.{length-reverse}
use Rattle.cell.specs.declared.frame.Frame.{Frame}
use Rattle.cell.specs.declared.wind.Wind.{Wind}
use Rattle.store.specs.declared.refusal.Refusal.TheVariants.{Full}
use Rattle.store.specs.Meaning.{Meaning, pushed}
use Rattle.machine.specs.declared.end.End.{End}
use Rattle.machine.specs.declared.end.End.TheVariants.{FrameLimit, WindLimit, HeldLimit}
use Rattle.machine.specs.Admission.{frames_pass}
use Rattle.machine.specs.Step.{Outcome, refused}
use Rattle.engine.specs.declared.step.Step.{Step}
use Rattle.engine.specs.Parts.{Parts, state_from, limits_from}
use Rattle.engine.specs.Acting.{Carried, ◌then◌, pushing, entering, idle, frame_room, name_room, capture_room}
use Rattle.faithful.proofs.Follows.{Follows}
use Rattle.faithful.specs.Sound.{Together}
use Rattle.faithful.proofs.ActsStages.{Checks, gate, Stands, begins}
use Rattle.faithful.proofs.ActsNames.{lengths}
use Rattle.faithful.proofs.ActsMoves.{pushes, enters}

-- a push with no room for it
full-is : {A : Type 0} (m : Meaning A) (x : A) → m.depth_limit ≤ length m.current → pushed m x ≡ (Err (Full m.limit_level), m)
full-is m x l = rw (le-leb m.depth_limit (length m.current) l)

-- three things in a row
then_assoc : {A B C : Type 0} (c : Carried A) (f : Parts → Carried B) (g : Parts → Carried C) → ((c then f) then g) ≡ (c then λ q. f q then g)
then_assoc (Ok a, q) f g = refl
then_assoc (Err e, q) f g = refl

module _ (p : Parts) (t : Together p) where
  -- a frame
  pub push_checks : (f : Frame)
      → Checks p (frames_pass (limits_from p) (state_from p) 1) (FrameLimit p.frames.limit_level) (λ r. Stands p r (f ∷ (state_from p).frames) (state_from p).winds (state_from p).held) (pushing f p)
  push_checks f = by (leb (length (state_from p).frames + 1) p.frames.depth_limit) refl
    where
      by : (b : Bool) → leb (length (state_from p).frames + 1) p.frames.depth_limit ≡ b
          → Checks p b (FrameLimit p.frames.limit_level) (λ r. Stands p r (f ∷ (state_from p).frames) (state_from p).winds (state_from p).held) (pushing f p)
      by true e = pushes (begins p t) f (omega (arith, leb-true _ _ e))
      by false e = rw (full-is p.frames f (omega (arith, leb-false _ _ e, length-reverse p.frames.current))) (refl, begins p t)

  -- a wind
  pub enter_checks : (w : Wind)
      → Checks p (ltb (length (state_from p).winds) p.winds.depth_limit) (WindLimit p.winds.limit_level) (λ r. Stands p r (state_from p).frames (w ∷ (state_from p).winds) (state_from p).held) (entering w p)
  enter_checks w = by (ltb (length (state_from p).winds) p.winds.depth_limit) refl
    where
      by : (b : Bool) → ltb (length (state_from p).winds) p.winds.depth_limit ≡ b
          → Checks p b (WindLimit p.winds.limit_level) (λ r. Stands p r (state_from p).frames (w ∷ (state_from p).winds) (state_from p).held) (entering w p)
      by true e = enters (begins p t) w (omega (arith, ltb-true _ _ e))
      by false e = rw (full-is p.winds w (grind (arith, e, length-reverse p.winds.current))) (refl, begins p t)

  -- room that is asked for by a test of its own, which tells X
  asked : (b : Bool) (e : End) (X : Type 0) → (b ≡ true → X) → Checks p b e (λ r. (r ≡ p) × X) (cond b (idle p) (Err e, p))
  asked true e X h = (refl, h refl)
  asked false e X h = (refl, begins p t)

  -- for so many frames more
  pub frame_room_checks : (k : ℕ)
      → Checks p (frames_pass (limits_from p) (state_from p) (suc k)) (FrameLimit p.frames.limit_level) (λ r. (r ≡ p) × (length (state_from p).frames + suc k ≤ p.frames.depth_limit)) (frame_room (suc k) p)
  frame_room_checks k = rw (length-reverse p.frames.current) (asked _ (FrameLimit p.frames.limit_level) _ (leb-true (length p.frames.current + suc k) p.frames.depth_limit))

  -- for a name more
  pub name_room_checks :
      Checks p (ltb (length (state_from p).held) (limits_from p).held) HeldLimit (λ r. (r ≡ p) × (length (state_from p).held < (limits_from p).held)) (name_room p)
  name_room_checks = rw ((lengths p.frames.held p.winds.held p.rows t).2) (asked _ HeldLimit _ (ltb-true (length p.rows) (limits_from p).held))

  -- for both, before a capture: an outcome that goes by the two tests, that of frames first
  pub room_gate : (k : ℕ) (o : Bool → Bool → Outcome) (next : Parts → Carried Step) → ((y : Bool) → o false y ≡ refused (FrameLimit p.frames.limit_level)) → o true false ≡ refused HeldLimit
      → (length (state_from p).frames + suc k ≤ p.frames.depth_limit → length (state_from p).held < (limits_from p).held → Follows p (o true true) (next p))
      → Follows p (o (frames_pass (limits_from p) (state_from p) (suc k)) (ltb (length (state_from p).held) (limits_from p).held)) (capture_room (suc k) p then next)
  room_gate k o next e d h =
      let names : Bool = ltb (length (state_from p).held) (limits_from p).held in
      rw (then_assoc (frame_room (suc k) p) name_room next)
      (gate (λ r. (r ≡ p) × (length (state_from p).frames + suc k ≤ p.frames.depth_limit)) (frame_room (suc k) p) p (λ b. o b names) (frames_pass (limits_from p) (state_from p) (suc k))
      (FrameLimit p.frames.limit_level) (λ q. name_room q then next) (e names) (frame_room_checks k)
      (λ q f. rw f.0
      (gate (λ r. (r ≡ p) × (length (state_from p).held < (limits_from p).held)) (name_room p) p (o true) names HeldLimit next d name_room_checks
      (λ r n. rw n.0 (h f.1 n.1)))))
