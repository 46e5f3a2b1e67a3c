-- The moves of frames and of winds, each from parts that stand for something to parts that stand for the next.
use Rattle.std.proofs.Common.{◌≡◌, ℕ, ◌-◌, ◌<◌, ◌≤◌, false, leb, List, [], ◌∷◌, ◌++◌, length, take, Ok, sym, ap, ◌∙◌, arith}
use Rattle.std.proofs.lemmas.List.{length-reverse}
use Rattle.cell.specs.declared.frame.Frame.{Frame}
use Rattle.cell.specs.declared.wind.Wind.{Wind}
use Rattle.store.specs.Meaning.{Meaning, with_current, pushed}
use Rattle.machine.specs.State.{Capture}
use Rattle.engine.specs.Parts.{Parts}
use Rattle.engine.specs.Acting.{◌then◌, pushing, popping, replacing, entering, leaving, idle}
use Rattle.faithful.proofs.ActsLists.{reverse_push, below-is, pop-is}
use Rattle.faithful.proofs.ActsStages.{Passes, after, Stands, its-frames, its-winds, reframed, rewound}

-- a push with room for it
push-is : {A : Type 0} (m : Meaning A) (x : A) → length m.current < m.depth_limit → pushed m x ≡ (Ok tt, with_current m (m.current ++ (x ∷ [])))
push-is m x l = rw (leb-false-of m.depth_limit (length m.current) l)
  where
    leb-false-of : (a b : ℕ) → b < a → leb a b ≡ false
    leb-false-of a b l = grind (arith, l)

module _ {p q : Parts} {fs : List Frame} {ws : List Wind} {cs : List Capture} (i : Stands p q fs ws cs) where
  pub pushes : (f : Frame) → length fs < p.frames.depth_limit → Passes (λ r. Stands p r (f ∷ fs) ws cs) (pushing f q)
  pushes f l =
      let same : q.frames.depth_limit ≡ p.frames.depth_limit = ap (λ l. l.frames) i.limits in
      let long : length q.frames.current ≡ length fs = sym (length-reverse q.frames.current) ∙ ap length (its-frames i) in
      rw (push-is q.frames f (omega arith)) (reframed i (q.frames.current ++ (f ∷ [])) (f ∷ fs) (reverse_push q.frames.current f ∙ ap (λ gs. f ∷ gs) (its-frames i)))

  pub pops : (f : Frame) (gs : List Frame) → fs ≡ f ∷ gs → Passes (λ r. Stands p r gs ws cs) (popping q)
  pops f gs e =
      let so = its-frames i ∙ e in
      rw (pop-is q.frames f gs so) (reframed i (take (length q.frames.current - 1) q.frames.current) gs (below-is q.frames.current f gs so))

  pub enters : (w : Wind) → length ws < p.winds.depth_limit → Passes (λ r. Stands p r fs (w ∷ ws) cs) (entering w q)
  enters w l =
      let same : q.winds.depth_limit ≡ p.winds.depth_limit = ap (λ l. l.winds) i.limits in
      let long : length q.winds.current ≡ length ws = sym (length-reverse q.winds.current) ∙ ap length (its-winds i) in
      rw (push-is q.winds w (omega arith)) (rewound i (q.winds.current ++ (w ∷ [])) (w ∷ ws) (reverse_push q.winds.current w ∙ ap (λ vs. w ∷ vs) (its-winds i)))

  pub leaves : (w : Wind) (vs : List Wind) → ws ≡ w ∷ vs → Passes (λ r. Stands p r fs vs cs) (leaving q)
  leaves w vs e =
      let so = its-winds i ∙ e in
      rw (pop-is q.winds w vs so) (rewound i (take (length q.winds.current - 1) q.winds.current) vs (below-is q.winds.current w vs so))

module _ {p q : Parts} {fs : List Frame} {ws : List Wind} {cs : List Capture} (i : Stands p q fs ws cs) where
  -- the top frame goes, and another comes
  pub replaces : (f g : Frame) (gs : List Frame) → fs ≡ g ∷ gs → length fs ≤ p.frames.depth_limit → Passes (λ r. Stands p r (f ∷ gs) ws cs) (replacing f q)
  replaces f g gs e l =
      let less : length gs < p.frames.depth_limit = let n = ap length e in omega arith in
      after (λ r. Stands p r gs ws cs) (popping q) (Passes (λ r. Stands p r (f ∷ gs) ws cs)) (pushing f) (pops i g gs e) (λ r j. pushes j f less)

  -- the top frame goes, and what it is is not needed
  pub drops : (f : Frame) (gs : List Frame) → fs ≡ f ∷ gs → Passes (λ r. Stands p r gs ws cs) (popping q then idle)
  drops f gs e = after (λ r. Stands p r gs ws cs) (popping q) (Passes (λ r. Stands p r gs ws cs)) idle (pops i f gs e) (λ r j. j)

  -- the same of a wind
  pub quits : (w : Wind) (vs : List Wind) → ws ≡ w ∷ vs → Passes (λ r. Stands p r fs vs cs) (leaving q then idle)
  quits w vs e = after (λ r. Stands p r fs vs cs) (leaving q) (Passes (λ r. Stands p r fs vs cs)) idle (leaves i w vs e) (λ r j. j)
