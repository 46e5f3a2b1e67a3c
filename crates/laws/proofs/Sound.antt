-- What holds of every state that a run comes to, and what an act has to meet for it to last.
use Rattle.std.proofs.Common.{◌≡◌, ℕ, suc, ◌+◌, ◌≤◌, Bool, true, false, ◌⊎◌, List, [], ◌∷◌, map, reverse, length, Some, None, Option, sym, refl, ap, ◌∙◌, inl, inr, arith, length-append}
use Rattle.std.specs.List.{AllByRecursion as All}
use Rattle.std.specs.Option.{option_map}
use Rattle.std.proofs.lemmas.List.{length-map}
use Rattle.std.proofs.lemmas.Bool.{cond_both}
use Rattle.std.proofs.ByRecursion.{All-push, All-map, All-weaker, All-set}
use Rattle.cell.specs.declared.value.Value.{Value}
use Rattle.cell.specs.declared.frame.Frame.{Frame}
use Rattle.cell.specs.declared.frame.Frame.TheVariants.{Saved, Back, Mark, In, Out, Hold, Toss, Enter}
use Rattle.cell.specs.declared.wind.Wind.{Wind}
use Rattle.machine.specs.declared.act.Act.{Act}
use Rattle.machine.specs.declared.write.Write.{Write}
use Rattle.machine.specs.declared.write.Write.TheVariants.{Nothing, Register as ToRegister, Global as ToGlobal}
use Rattle.machine.specs.declared.frame_move.FrameMove.{FrameMove}
use Rattle.machine.specs.declared.frame_move.FrameMove.TheVariants.{Keep, Push, PushBoth, Pop, Replace, Restore}
use Rattle.machine.specs.declared.wind_move.WindMove.{WindMove}
use Rattle.machine.specs.declared.wind_move.WindMove.TheVariants.{Stay, Open, Reenter, Leave}
use Rattle.machine.specs.declared.name_move.NameMove.{NameMove}
use Rattle.machine.specs.declared.name_move.NameMove.TheVariants.{Keep as KeepNames, SaveMany, SaveOnce, Use, Forget}
use Rattle.machine.specs.declared.mode.Mode.{Mode}
use Rattle.machine.specs.declared.mode.Mode.TheVariants.{Going, Returning, Throwing}
use Rattle.machine.specs.Named.{find, changed}
use Rattle.machine.specs.Names.{value_names, frame_names, mode_names}
use Rattle.machine.specs.State.{State, Capture, capture_name, for_many, wind_number, wind_numbers}
use Rattle.machine.specs.Apply.{registers_after, globals_after, below, replaced, saved_frames, frames_after, winds_after, marked_in, promoted, capture, held_after, made_after, used_after, forgotten_after, numbered_after, entered_after, left_after, apply, halted}
use Rattle.laws.specs.Counts.{Conserved, Made, ValueMade, FrameMade, NamesMade}
use Rattle.laws.specs.Reached.{SomeWind}
use Rattle.laws.proofs.Counting.{Numbered, numbered-up, numbered-fresh, numbered_less, numbered_push, Prefix}
use Rattle.laws.proofs.Named.{names, find-all, find_push, find-kept, find-map, names_push, names-map, length_without, count-without, all_without}
use Rattle.laws.proofs.Frames.{Walk, walk_weaker}
use Rattle.laws.proofs.Planned.{write_names, Holds}

-- the names of captures
abbrev pub held-names : List Capture → List ℕ
held-names = names capture_name

-- Where a throw enters winds again, those in force begin those that its name saved. What is below a frame of a throw is never
-- returned to, so nothing is asked of it.
abbrev pub Entering : List Capture → Frame → List Frame → List ℕ → Type 0
Entering held (Saved v) fs ws = Unit {0}
Entering held (Back p) fs ws = Unit {0}
Entering held (Mark n) fs ws = Unit {0}
Entering held (In before body then) fs ws = Unit {0}
Entering held Out fs ws = Unit {0}
Entering held (Hold v) fs ws = Unit {0}
Entering held (Toss n v) fs ws = Unit {0}
Entering held (Enter n v) fs ws = (c : Capture) → find capture_name held n.0 ≡ Some c → Prefix (reverse ws) (reverse (wind_numbers c.winds))

-- where the frames end, no wind is left
abbrev pub NoneLeft : List ℕ → Type 0
NoneLeft [] = Unit {0}
NoneLeft (w ∷ ws) = ⊥

-- the frames fit the numbers of the winds: each Out has its wind, and each wind its Out
abbrev pub Fits : List Capture → List Frame → List ℕ → Type 0
Fits held fs ws = Walk NoneLeft (Entering held) fs ws

-- while a throw is under way, the frames are not returned to
abbrev pub Rests : Mode → Type 0 → Type 0
Rests (Going p) P = P
Rests Returning P = P
Rests (Throwing n v) P = Unit {0}

pub record CaptureSound (numbered : ℕ) (held : List Capture) (c : Capture) : Type 0 where
  pub winds : Numbered numbered (wind_numbers c.winds)
  pub frames : Fits held c.frames (wind_numbers c.winds)

pub record Sound (s : State) : Type 0 where
  pub conserved : Conserved s
  pub known : NamesMade s
  pub names : Numbered s.counts.made (held-names s.held)
  pub winds : Numbered s.counts.numbered (wind_numbers s.winds)
  pub captures : All (CaptureSound s.counts.numbered s.held) s.held
  pub fits : Rests s.mode (Fits s.held s.frames (wind_numbers s.winds))

-- What an act has to meet.

-- given the frames after their move
abbrev pub Owned : State → List Frame → NameMove → Type 0
Owned s fs KeepNames = Unit {0}
Owned s fs SaveMany = Fits s.held fs (wind_numbers s.winds)
Owned s fs SaveOnce = Fits s.held (below fs) (wind_numbers s.winds)
Owned s fs (Use n) = (c : Capture) × Holds s n c
Owned s fs (Forget n) = (c : Capture) × Holds s n c

abbrev pub Entered : State → WindMove → Type 0
Entered s Stay = Unit {0}
Entered s (Open before after) = Unit {0}
Entered s (Reenter w) = Numbered s.counts.numbered (wind_number w ∷ wind_numbers s.winds)
Entered s Leave = SomeWind s

-- the frames that a move pushes
abbrev pub pushed : FrameMove → List Frame
pushed Keep = []
pushed (Push f) = f ∷ []
pushed (PushBoth f g) = g ∷ f ∷ []
pushed Pop = []
pushed (Replace f) = f ∷ []
pushed (Restore n) = []

-- a throw that waits to enter a wind is to a name that was made
abbrev pub EntersMade : State → Frame → Type 0
EntersMade s (Saved v) = Unit {0}
EntersMade s (Back p) = Unit {0}
EntersMade s (Mark n) = Unit {0}
EntersMade s (In before body then) = Unit {0}
EntersMade s Out = Unit {0}
EntersMade s (Hold v) = Unit {0}
EntersMade s (Toss n v) = Unit {0}
EntersMade s (Enter n v) = Made s n.0

-- a name is made by the end of a step
abbrev pub MadeBy : State → NameMove → ℕ → Type 0
MadeBy s m n = n ≤ made_after s.counts.made m

abbrev pub FrameMadeBy : State → NameMove → Frame → Type 0
FrameMadeBy s m f = All (MadeBy s m) (frame_names f)

pub record Legal (s : State) (a : Act) : Type 0 where
  pub owned : Owned s (frames_after s a.frames) a.names
  pub entered : Entered s a.winds
  pub fits : Rests a.mode (Fits s.held (frames_after s a.frames) (wind_numbers (winds_after s a.winds)))
  pub written : All (MadeBy s a.names) (write_names a.write)
  pub pushes : All (FrameMadeBy s a.names) (pushed a.frames)
  pub enters : All (EntersMade s) (pushed a.frames)
  pub mode : All (MadeBy s a.names) (mode_names a.mode)

-- Names, after a move.

pub made_up : (k : ℕ) (m : NameMove) → k ≤ made_after k m
made_up k KeepNames = omega arith
made_up k SaveMany = omega arith
made_up k SaveOnce = omega arith
made_up k (Use n) = omega arith
made_up k (Forget n) = omega arith

pub numbered_grows : (k : ℕ) (w : WindMove) → k ≤ numbered_after k w
numbered_grows k Stay = omega arith
numbered_grows k (Open before after) = omega arith
numbered_grows k (Reenter w) = omega arith
numbered_grows k Leave = omega arith

-- names that were made before a step are made after it
pub still : (s : State) (m : NameMove) (ns : List ℕ) → All (Made s) ns → All (MadeBy s m) ns
still s m = All-weaker (Made s) (MadeBy s m) (λ n h. let u = made_up s.counts.made m in omega arith)

pub still_frames : (s : State) (m : NameMove) (fs : List Frame) → All (FrameMade s) fs → All (FrameMadeBy s m) fs
still_frames s m = All-weaker (FrameMade s) (FrameMadeBy s m) (λ f h. still s m (frame_names f) h)

all-below : {A : Type 0} (P : A → Type 0) (xs : List A) → All P xs → All P (below xs)
all-below P [] h = tt
all-below P (x ∷ xs) h = h.1

all-replaced : (P : Frame → Type 0) (f : Frame) (fs : List Frame) → P f → All P fs → All P (replaced f fs)
all-replaced P f [] p h = tt
all-replaced P f (x ∷ fs) p h = (p, h.1)

-- what a change keeps of a capture
changed-winds : (test : ℕ → Bool) (c : Capture) → (changed capture_name test for_many c).winds ≡ c.winds
changed-winds test c = cond_both (test c.name.0) (for_many c) c (λ d. d.winds ≡ c.winds) (λ e. refl) (λ e. refl)

pub changed-name : (test : ℕ → Bool) (c : Capture) → capture_name (changed capture_name test for_many c) ≡ capture_name c
changed-name test c = cond_both (test c.name.0) (for_many c) c (λ d. d.name.0 ≡ c.name.0) (λ e. refl) (λ e. refl)

-- a change of some captures keeps what holds of both forms
all_changed : (P : Capture → Type 0) (test : ℕ → Bool) (cs : List Capture) → ((c : Capture) → P c → P (for_many c)) → All P cs → All P (map (changed capture_name test for_many) cs)
all_changed P test cs h k =
    All-map P (changed capture_name test for_many) cs
    (All-weaker P (λ c. P (changed capture_name test for_many c)) (λ c p. cond_both (test c.name.0) (for_many c) c P (λ e. h c p) (λ e. p)) cs k)

pub length-promoted : (fs : List Frame) (cs : List Capture) → length (promoted fs cs) ≡ length cs
length-promoted fs cs = length-map cs (changed capture_name (marked_in fs) for_many)

-- P of every capture that is held after a move, if P of those before and of the new one
pub all-held_after : (P : Capture → Type 0) (s : State) (fs : List Frame) (m : NameMove) → ((c : Capture) → P c → P (for_many c))
    → (m ≡ SaveMany → P (capture s false fs)) → (m ≡ SaveOnce → P (capture s true (below fs))) → All P s.held → All P (held_after s fs m)
all-held_after P s fs KeepNames h many once k = k
all-held_after P s fs SaveMany h many once k = All-push P (promoted fs s.held) (capture s false fs) (all_changed P (marked_in fs) s.held h k) (many refl)
all-held_after P s fs SaveOnce h many once k = All-push P s.held (capture s true (below fs)) k (once refl)
all-held_after P s fs (Use n) h many once k = all_without capture_name P s.held n.0 k
all-held_after P s fs (Forget n) h many once k = all_without capture_name P s.held n.0 k

module _ (s : State) (k : Sound s) (fs : List Frame) where
  -- under a name that was made before, a move leaves no other winds
  pub record Was (n : ℕ) (c : Capture) : Type 0 where
    pub before : Capture
    pub found : find capture_name s.held n ≡ Some before
    pub same : before.winds ≡ c.winds

  was_itself : (n : ℕ) (c : Capture) → find capture_name s.held n ≡ Some c → Was n c
  was_itself n c e = record { before = c; found = e; same = refl }

  was_changed : (n : ℕ) (c : Capture) (o : Option Capture) → find capture_name s.held n ≡ o
      → option_map (changed capture_name (marked_in fs) for_many) o ≡ Some c → Was n c
  was_changed n c None e f = cc
  was_changed n c (Some d) e f =
      let i : changed capture_name (marked_in fs) for_many d ≡ c = cc in
      record { before = d; found = e; same = sym (changed-winds (marked_in fs) d) ∙ ap (λ (x : Capture). x.winds) i }

  pub was : (m : NameMove) (n : ℕ) (c : Capture) → n ≤ s.counts.made → find capture_name (held_after s fs m) n ≡ Some c → Was n c
  was KeepNames n c l e = was_itself n c e
  was SaveMany n c l e =
      was_changed n c (find capture_name s.held n) refl
      (sym (find-map capture_name (changed capture_name (marked_in fs) for_many) (changed-name (marked_in fs)) s.held n)
      ∙ sym (find_push capture_name (promoted fs s.held) (capture s false fs) n (λ i. absurd (omega arith))) ∙ e)
  was SaveOnce n c l e = was_itself n c (sym (find_push capture_name s.held (capture s true (below fs)) n (λ i. absurd (omega arith))) ∙ e)
  was (Use m) n c l e = was_itself n c (find-kept capture_name s.held m.0 n c (k.names m.0).0 e)
  was (Forget m) n c l e = was_itself n c (find-kept capture_name s.held m.0 n c (k.names m.0).0 e)

  entering-after : (m : NameMove) (f : Frame) (gs : List Frame) (ws : List ℕ) → EntersMade s f → Entering s.held f gs ws → Entering (held_after s fs m) f gs ws
  entering-after m (Saved v) gs ws p h = tt
  entering-after m (Back q) gs ws p h = tt
  entering-after m (Mark n) gs ws p h = tt
  entering-after m (In before body then) gs ws p h = tt
  entering-after m Out gs ws p h = tt
  entering-after m (Hold v) gs ws p h = tt
  entering-after m (Toss n v) gs ws p h = tt
  entering-after m (Enter n v) gs ws p h = λ c e.
      let w : Was n.0 c = was m n.0 c p e in
      rw (← w.same) (h w.before w.found)

  -- frames that fit still fit after a move of the names
  fits_after : (m : NameMove) (gs : List Frame) (ws : List ℕ) → All (EntersMade s) gs → Fits s.held gs ws → Fits (held_after s fs m) gs ws
  fits_after m = walk_weaker NoneLeft (Entering s.held) (Entering (held_after s fs m)) (EntersMade s) (entering-after m)

  names-after : (m : NameMove) → Numbered (made_after s.counts.made m) (held-names (held_after s fs m))
  names-after KeepNames = k.names
  names-after SaveMany =
      rw (names_push capture_name (promoted fs s.held) (capture s false fs), names-map capture_name (changed capture_name (marked_in fs) for_many) (changed-name (marked_in fs)) s.held)
      (numbered_push s.counts.made (held-names s.held) k.names)
  names-after SaveOnce =
      rw (names_push capture_name s.held (capture s true (below fs))) (numbered_push s.counts.made (held-names s.held) k.names)
  names-after (Use n) = numbered_less s.counts.made _ (held-names s.held) (λ j. count-without capture_name j s.held n.0) k.names
  names-after (Forget n) = numbered_less s.counts.made _ (held-names s.held) (λ j. count-without capture_name j s.held n.0) k.names

-- Frames, after a move.

enters-made : (s : State) (f : Frame) → FrameMade s f → EntersMade s f
enters-made s (Saved v) h = tt
enters-made s (Back p) h = tt
enters-made s (Mark n) h = tt
enters-made s (In before body then) h = tt
enters-made s Out h = tt
enters-made s (Hold v) h = tt
enters-made s (Toss n v) h = tt
enters-made s (Enter n v) h = h.0

-- P of every frame after a move, if P of those before, of those saved and of those pushed
all-frames_after : (P : Frame → Type 0) (s : State) (m : FrameMove) → All P s.frames → All (λ (c : Capture). All P c.frames) s.held → All P (pushed m) → All P (frames_after s m)
all-frames_after P s Keep h k p = h
all-frames_after P s (Push f) h k p = (p.0, h)
all-frames_after P s (PushBoth f g) h k p = (p.0, (p.1.0, h))
all-frames_after P s Pop h k p = all-below P s.frames h
all-frames_after P s (Replace f) h k p = all-replaced P f s.frames p.0 h
all-frames_after P s (Restore n) h k p = go (find capture_name s.held n.0) refl
  where
    go : (o : Option Capture) → find capture_name s.held n.0 ≡ o → All P (saved_frames o s.frames)
    go None e = h
    go (Some c) e = find-all capture_name (λ (c : Capture). All P c.frames) s.held n.0 c e k

rests_map : (m : Mode) (P Q : Type 0) → (P → Q) → Rests m P → Rests m Q
rests_map (Going p) P Q f h = f h
rests_map Returning P Q f h = f h
rests_map (Throwing n v) P Q f h = tt

-- Each part of the next state.

numbered_below : (m : ℕ) (ws : List Wind) → Numbered m (wind_numbers ws) → Numbered m (wind_numbers (below ws))
numbered_below m [] h = h
numbered_below m (w ∷ ws) h = numbered_less m (wind_numbers ws) (wind_numbers (w ∷ ws)) (λ k. omega arith) h

winds-sound : (s : State) (w : WindMove) → Entered s w → Numbered s.counts.numbered (wind_numbers s.winds)
    → Numbered (numbered_after s.counts.numbered w) (wind_numbers (winds_after s w))
winds-sound s Stay e h = h
winds-sound s (Open before after) e h = numbered-fresh s.counts.numbered (wind_numbers s.winds) h
winds-sound s (Reenter w) e h = e
winds-sound s Leave e h = numbered_below s.counts.numbered s.winds h

module _ (s : State) (a : Act) (k : Sound s) (g : Legal s a) where
  abbrev fs : List Frame
  fs = frames_after s a.frames

  abbrev ValueBy : Value → Type 0
  ValueBy v = All (MadeBy s a.names) (value_names v)

  still_values : (vs : List Value) → All (ValueMade s) vs → All ValueBy vs
  still_values = All-weaker (ValueMade s) ValueBy (λ v h. still s a.names (value_names v) h)

  registers-made : All ValueBy (registers_after s a.write)
  registers-made = go a.write g.written
    where
      go : (w : Write) → All (MadeBy s a.names) (write_names w) → All ValueBy (registers_after s w)
      go Nothing h = still_values s.registers k.known.registers
      go (ToRegister r v) h = All-set ValueBy s.registers r.0 v h (still_values s.registers k.known.registers)
      go (ToGlobal r v) h = still_values s.registers k.known.registers

  globals-made : All ValueBy (globals_after s a.write)
  globals-made = go a.write g.written
    where
      go : (w : Write) → All (MadeBy s a.names) (write_names w) → All ValueBy (globals_after s w)
      go Nothing h = still_values s.globals k.known.globals
      go (ToRegister r v) h = still_values s.globals k.known.globals
      go (ToGlobal r v) h = All-set ValueBy s.globals r.0 v h (still_values s.globals k.known.globals)

  abbrev SavedBy : Capture → Type 0
  SavedBy c = (c.name.0 ≤ made_after s.counts.made a.names) × All (FrameMadeBy s a.names) c.frames

  saved-made : All SavedBy s.held
  saved-made =
      All-weaker _ SavedBy
      (λ c h. (let u = made_up s.counts.made a.names in omega (arith, h.0), still_frames s a.names c.frames h.1)) s.held k.known.held

  frames-made : All (FrameMadeBy s a.names) fs
  frames-made =
      all-frames_after (FrameMadeBy s a.names) s a.frames (still_frames s a.names s.frames k.known.frames)
      (All-weaker SavedBy (λ c. All (FrameMadeBy s a.names) c.frames) (λ c h. h.1) s.held saved-made) g.pushes

  new-name : (m : NameMove) → (m ≡ SaveMany) ⊎ (m ≡ SaveOnce) → s.counts.made + 1 ≤ made_after s.counts.made m
  new-name m (inl e) = rw e (omega arith)
  new-name m (inr e) = rw e (omega arith)

  held-made : All SavedBy (held_after s fs a.names)
  held-made =
      all-held_after SavedBy s fs a.names (λ c h. h)
      (λ e. (new-name a.names (inl e), frames-made))
      (λ e. (new-name a.names (inr e), all-below (FrameMadeBy s a.names) fs frames-made)) saved-made

  known_after : NamesMade (apply s a)
  known_after = record { registers = registers-made; globals = globals-made; frames = frames-made; mode = g.mode; held = held-made }

  enters-saved : All (λ (c : Capture). All (EntersMade s) c.frames) s.held
  enters-saved = All-weaker _ (λ (c : Capture). All (EntersMade s) c.frames) (λ c h. All-weaker (FrameMade s) (EntersMade s) (enters-made s) c.frames h.1) s.held k.known.held

  enters-after : All (EntersMade s) fs
  enters-after =
      all-frames_after (EntersMade s) s a.frames (All-weaker (FrameMade s) (EntersMade s) (enters-made s) s.frames k.known.frames) enters-saved g.enters

  abbrev SoundAfter : Capture → Type 0
  SoundAfter = CaptureSound (numbered_after s.counts.numbered a.winds) (held_after s fs a.names)

  -- a capture whose frames enter only what was made
  capture-after : (c : Capture) → All (EntersMade s) c.frames → CaptureSound s.counts.numbered s.held c → SoundAfter c
  capture-after c e h = record {
    winds = numbered-up s.counts.numbered _ (wind_numbers c.winds) (numbered_grows s.counts.numbered a.winds) h.winds;
    frames = fits_after s k fs a.names c.frames (wind_numbers c.winds) e h.frames;
  }

  both : (cs : List Capture) → All (λ (c : Capture). All (EntersMade s) c.frames) cs → All (CaptureSound s.counts.numbered s.held) cs → All SoundAfter cs
  both [] e h = tt
  both (c ∷ cs) e h = (capture-after c e.0 h.0, both cs e.1 h.1)

  captures-after : All SoundAfter (held_after s fs a.names)
  captures-after =
      all-held_after SoundAfter s fs a.names (λ c h. record { winds = h.winds; frames = h.frames })
      (λ e. capture-after (capture s false fs) enters-after (record { winds = k.winds; frames = rw e at g.owned }))
      (λ e. capture-after (capture s true (below fs)) (all-below (EntersMade s) fs enters-after) (record { winds = k.winds; frames = rw e at g.owned }))
      (both s.held enters-saved k.captures)

-- Counts.

names-conserved : (s : State) (fs : List Frame) (m : NameMove) → Owned s fs m → s.counts.made ≡ s.counts.used + s.counts.forgotten + length s.held
    → made_after s.counts.made m ≡ used_after s.counts.used m + forgotten_after s.counts.forgotten m + length (held_after s fs m)
names-conserved s fs KeepNames o e = e
names-conserved s fs SaveMany o e = rw (length-append, length-promoted) (omega arith)
names-conserved s fs SaveOnce o e = rw length-append (omega arith)
names-conserved s fs (Use n) o e = omega (arith, length_without capture_name s.held n.0 o.0 o.1)
names-conserved s fs (Forget n) o e = omega (arith, length_without capture_name s.held n.0 o.0 o.1)

winds-conserved : (s : State) (w : WindMove) → Entered s w → s.counts.entered ≡ s.counts.left + length s.winds
    → entered_after s.counts.entered w ≡ left_after s.counts.left w + length (winds_after s w)
winds-conserved s Stay h e = e
winds-conserved s (Open before after) h e = omega arith
winds-conserved s (Reenter w) h e = omega arith
winds-conserved s Leave h e =
    let i : length s.winds ≡ suc (length h.1) = ap length h.2 in
    let j : length (below s.winds) ≡ length h.1 = ap (λ (ws : List Wind). length (below ws)) h.2 in omega arith

pub apply-sound : (s : State) (a : Act) → Sound s → Legal s a → Sound (apply s a)
apply-sound s a k g = record {
  conserved = record { names = names-conserved s (fs s a k g) a.names g.owned k.conserved.names; winds = winds-conserved s a.winds g.entered k.conserved.winds };
  known = known_after s a k g;
  names = names-after s k (fs s a k g) a.names;
  winds = winds-sound s a.winds g.entered k.winds;
  captures = captures-after s a k g;
  fits = rests_map a.mode _ _ (fits_after s k (fs s a k g) a.names (fs s a k g) (wind_numbers (winds_after s a.winds)) (enters-after s a k g)) g.fits;
}

pub halted-sound : (s : State) → Sound s → Sound (halted s)
halted-sound s k =
    apply-sound s (record { write = Nothing; frames = Keep; winds = Stay; names = KeepNames; mode = s.mode; line = None }) k
    (record { owned = tt; entered = tt; fits = k.fits; written = tt; pushes = tt; enters = tt; mode = k.known.mode })
