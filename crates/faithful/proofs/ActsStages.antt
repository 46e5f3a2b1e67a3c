-- Things done to parts one after another: what was reached by one is where the next begins.
use Rattle.std.proofs.Common.{◌≡◌, Bool, true, false, List, Ok, Err, sym, refl, ap, ◌∙◌, subst}
use Rattle.cell.specs.declared.frame.Frame.{Frame}
use Rattle.cell.specs.declared.wind.Wind.{Wind}
use Rattle.store.specs.Meaning.{with_current}
use Rattle.machine.specs.declared.end.End.{End}
use Rattle.machine.specs.State.{State, Capture}
use Rattle.machine.specs.Step.{Outcome, refused}
use Rattle.engine.specs.declared.step.Step.{Step}
use Rattle.engine.specs.Parts.{Parts, state_from, with_frames, with_winds}
use Rattle.engine.specs.Acting.{Carried, ◌then◌}
use Rattle.faithful.specs.Sound.{Together}
use Rattle.faithful.proofs.Follows.{Reach, Follows}

-- nothing was refused, and P holds of the parts
abbrev pub Passes : {A : Type 0} → (Parts → Type 0) → Carried A → Type 0
Passes P (Ok a, q) = P q
Passes P (Err e, q) = ⊥

-- it was refused by this end, and the parts stand for what they stood for
abbrev pub Refuses : {A : Type 0} → Parts → End → Carried A → Type 0
Refuses p e (Ok a, q) = ⊥
Refuses p e (Err d, q) = (e ≡ d) × Reach p q (state_from p)

-- it passes exactly if a test does
abbrev pub Checks : {A : Type 0} → Parts → Bool → End → (Parts → Type 0) → Carried A → Type 0
Checks p true e P c = Passes P c
Checks p false e P c = Refuses p e c

module _ {A : Type 0} (P : Parts → Type 0) (c : Carried A) where
  -- what holds of the next thing holds of both
  pub after : {B : Type 0} (R : Carried B → Type 0) (next : Parts → Carried B) → Passes P c → ((q : Parts) → P q → R (next q)) → R (c then next)
  after R next = by c
    where
      by : (c : Carried A) → Passes P c → ((q : Parts) → P q → R (next q)) → R (c then next)
      by (Ok a, q) h k = k q h
      by (Err e, q) h k = absurd h

  -- an outcome that goes by a test is followed if the next thing follows it where the test passes
  pub gate : (p : Parts) (o : Bool → Outcome) (b : Bool) (e : End) (next : Parts → Carried Step) → o false ≡ refused e → Checks p b e P c
      → ((q : Parts) → P q → Follows p (o true) (next q)) → Follows p (o b) (c then next)
  gate p o true e next r h k = after (Follows p (o true)) next h k
  gate p o false e next r h k = by c h
    where
      by : (c : Carried A) → Refuses p e c → Follows p (o false) (c then next)
      by (Ok a, q) h = absurd h
      by (Err d, q) h = let stop : Carried Step = (Err d, q) in subst (λ x. Follows p x stop) (sym r) h

-- what holds after two things holds of both and the next
pub after_both : {A B D : Type 0} (P : Parts → Type 0) (c : Carried A) (f : Parts → Carried B) (R : Carried D → Type 0) (next : Parts → Carried D) → Passes P (c then f)
    → ((q : Parts) → P q → R (next q)) → R (c then λ q. f q then next)
after_both P (Ok a, q) f R next h k = after P (f q) R next h k
after_both P (Err e, q) f R next h k = absurd h

-- the state of parts, with other frames, winds and captures
abbrev pub placed : Parts → List Frame → List Wind → List Capture → State
placed p fs ws cs = record (state_from p) { frames = fs; winds = ws; held = cs }

-- parts q that came of p stand for p's state with these frames, winds and captures
abbrev pub Stands : Parts → Parts → List Frame → List Wind → List Capture → Type 0
Stands p q fs ws cs = Reach p q (placed p fs ws cs)

-- where it begins
pub begins : (p : Parts) → Together p → Stands p p (state_from p).frames (state_from p).winds (state_from p).held
begins p t = record { state = refl; limits = refl; together = t }

module _ {p q : Parts} {fs : List Frame} {ws : List Wind} {cs : List Capture} (i : Stands p q fs ws cs) where
  pub its-frames : (state_from q).frames ≡ fs
  its-frames = ap (λ s. s.frames) i.state

  pub its-winds : (state_from q).winds ≡ ws
  its-winds = ap (λ s. s.winds) i.state

  pub its-held : (state_from q).held ≡ cs
  its-held = ap (λ s. s.held) i.state

  -- with another list in the frame store
  pub reframed : (xs gs : List Frame) → (state_from (with_frames q (with_current q.frames xs))).frames ≡ gs → Stands p (with_frames q (with_current q.frames xs)) gs ws cs
  reframed xs gs e = record {
    state = ap {A = State} {B = State} (λ s. record s { frames = (state_from (with_frames q (with_current q.frames xs))).frames }) i.state ∙ ap (λ gs. placed p gs ws cs) e;
    limits = i.limits;
    together = i.together;
  }

  -- with another list in the wind store
  pub rewound : (xs vs : List Wind) → (state_from (with_winds q (with_current q.winds xs))).winds ≡ vs → Stands p (with_winds q (with_current q.winds xs)) fs vs cs
  rewound xs vs e = record {
    state = ap {A = State} {B = State} (λ s. record s { winds = (state_from (with_winds q (with_current q.winds xs))).winds }) i.state ∙ ap (λ vs. placed p fs vs cs) e;
    limits = i.limits;
    together = i.together;
  }
