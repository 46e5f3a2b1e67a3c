-- The moves of names, each from parts that stand for something to parts that stand for the next.
use Rattle.std.proofs.Common.{◌≡◌, ℕ, ◌<◌, Bool, true, false, eqb, leb, ltb, List, [], ◌∷◌, ◌++◌, reverse, length, Some, None, Ok, refl, ap, ◌∙◌, ap₂, lt-ltb, arith}
use Rattle.std.proofs.lemmas.List.{length-map}
use Rattle.cell.specs.declared.frame.Frame.{Frame}
use Rattle.cell.specs.declared.name.Name.{Name}
use Rattle.cell.specs.declared.wind.Wind.{Wind}
use Rattle.store.specs.Meaning.{Meaning, with_current, with_held, saved_under, without}
use Rattle.store.specs.Meaning as Meaning
use Rattle.machine.specs.declared.frame_move.FrameMove.TheVariants.{Keep, Restore}
use Rattle.machine.specs.Named.{find, changed_all}
use Rattle.machine.specs.Named as Named
use Rattle.machine.specs.State.{State, Capture, capture_name}
use Rattle.machine.specs.State as State
use Rattle.machine.specs.Apply.{marked_in, promoted}
use Rattle.machine.specs.Opening.{most_held}
use Rattle.held.specs.declared.held_row.HeldRow.{HeldRow}
use Rattle.held.specs.Rows.{row_name, for_many}
use Rattle.laws.specs.Rows.{joined}
use Rattle.laws.proofs.Rows.{joined_push, joined-without, joined-changed}
use Rattle.engine.specs.Parts.{Parts, captured, state_from, limits_from, with_frames, with_winds, with_rows}
use Rattle.engine.specs.Acting.{◌then◌, restoring, taking, release, saving, holding_many, holding_once}
use Rattle.faithful.specs.Sound.{pair_name}
use Rattle.faithful.proofs.ActsNames.{Fit, lengths, unsaved, Saves, saves, store-without}
use Rattle.faithful.proofs.PlansNames.{looked}
use Rattle.faithful.proofs.ActsStages.{Passes, placed, Stands, its-frames, its-winds, its-held, reframed}

-- A name goes.

-- the frames xs are current, and a name is held no more
abbrev freed : Parts → List Frame → ℕ → Parts
freed q xs n =
    with_rows (with_winds (with_frames q (with_held (with_current q.frames xs) (without q.frames.held n))) (with_held q.winds (without q.winds.held n)))
    (Named.without row_name q.rows n)

rows_without : (n : ℕ) (q : Parts) → Fit q.frames.held q.winds.held q.rows
    → Fit (without q.frames.held n) (without q.winds.held n) (Named.without row_name q.rows n)
    × (joined captured (without q.frames.held n) (without q.winds.held n) (Named.without row_name q.rows n) ≡ Named.without capture_name (state_from q).held n)
rows_without n q h =
    rw (store-without n q.frames.held, store-without n q.winds.held)
    (joined-without pair_name pair_name row_name capture_name captured (λ x y z. refl) n q.frames.held q.winds.held q.rows h)

module _ {p q : Parts} {fs : List Frame} {ws : List Wind} {cs : List Capture} (i : Stands p q fs ws cs) where
  freed_stands : (n : ℕ) (xs gs : List Frame) → reverse xs ≡ gs → Stands p (freed q xs n) gs ws (Named.without capture_name cs n)
  freed_stands n xs gs e =
      let j = rows_without n q i.together in
      record {
        state =
            ap {A = State} {B = State} (λ s. record s { frames = reverse xs; held = (state_from (freed q xs n)).held }) i.state
            ∙ ap₂ (λ gs cs. placed p gs ws cs) e (j.1 ∙ ap (λ cs. Named.without capture_name cs n) (its-held i));
        limits = i.limits;
        together = j.0;
      }

  module _ (n : Name) (c : Capture) (e : find capture_name cs n.0 ≡ Some c) where
    saved : Saves n.0 q.frames.held q.winds.held q.rows c
    saved = saves n.0 q.frames.held q.winds.held q.rows c (looked n.0 q.frames.held q.winds.held q.rows i.together) (ap (λ cs. find capture_name cs n.0) (its-held i) ∙ e)

    -- the frames saved under it are current
    pub restores : Passes (λ r. Stands p r c.frames ws cs) (restoring n q)
    restores = rw saved.in_frames (reframed i saved.frames c.frames saved.same_frames)

    -- it is held no more
    pub releases : Passes (λ r. Stands p r fs ws (Named.without capture_name cs n.0)) (release Keep n q)
    releases = rw (saved.in_frames, saved.in_winds) (freed_stands n.0 q.frames.current fs (its-frames i))

    -- both
    pub takes : Passes (λ r. Stands p r c.frames ws (Named.without capture_name cs n.0)) (taking n q then release (Restore n) n)
    takes = rw (saved.in_frames, saved.in_winds) (freed_stands n.0 saved.frames c.frames saved.same_frames)

-- A name comes.

-- what a store means once it holds its current list under a name
abbrev keeping : {A : Type 0} → Meaning A → ℕ → Meaning A
keeping m n = with_held m (m.held ++ (record { name = n; cells = m.current } ∷ []))

-- a save under a name that is free, with room for it
saved-is : {A : Type 0} (m : Meaning A) (n : ℕ) → saved_under m.held n ≡ None → eqb n 0 ≡ false → leb m.held_limit (length m.held) ≡ false → Meaning.saved m n ≡ (Ok tt, keeping m n)
saved-is m n e z l = rw (e, z, l)

-- both stores hold a name, and the rows are others
abbrev given : Parts → Name → Bool → List HeldRow → Parts
given q n once zs = with_rows (with_winds (with_frames q (keeping q.frames n.0)) (keeping q.winds n.0)) (zs ++ (record { name = n; once = once } ∷ []))

-- the capture that they make
abbrev pub took : Name → Bool → List Frame → List Wind → Capture
took n once fs ws = record { name = n; once = once; frames = fs; winds = ws }

module _ {p q : Parts} {fs : List Frame} {ws : List Wind} {cs : List Capture} (i : Stands p q fs ws cs) where
  given_stands : (n : Name) (once : Bool) (zs : List HeldRow) (ds : List Capture) → Fit q.frames.held q.winds.held zs → joined captured q.frames.held q.winds.held zs ≡ ds
      → Stands p (given q n once zs) fs ws (ds ++ (took n once fs ws ∷ []))
  given_stands n once zs ds h e =
      let j =
      joined_push pair_name pair_name row_name capture_name captured (λ x y z. refl) (record { name = n.0; cells = q.frames.current })
      (record { name = n.0; cells = q.winds.current }) (record { name = n; once = once }) refl refl q.frames.held q.winds.held zs h
      in
      record {
        state =
            ap {A = State} {B = State} (λ s. record s { held = (state_from (given q n once zs)).held }) i.state
            ∙ ap (placed p fs ws) (j.1 ∙ cc (e, its-frames i, its-winds i));
        limits = i.limits;
        together = j.0;
      }

  module _ (n : Name) (e : find capture_name cs n.0 ≡ None) (z : eqb n.0 0 ≡ false) (l : length cs < (limits_from p).held) where
    -- both stores and the rows have room
    few : length q.rows < (limits_from q).held
    few =
        let same = ap (λ l. l.held) i.limits in
        let many = ap length (its-held i) in
        omega (arith, l, same, many, (lengths q.frames.held q.winds.held q.rows i.together).2)

    saving-is : saving n q ≡ (Ok tt, with_winds (with_frames q (keeping q.frames n.0)) (keeping q.winds n.0))
    saving-is =
        let k = lengths q.frames.held q.winds.held q.rows i.together in
        let u = unsaved n.0 q.frames.held q.winds.held q.rows (looked n.0 q.frames.held q.winds.held q.rows i.together) (ap (λ cs. find capture_name cs n.0) (its-held i) ∙ e) in
        let f : leb q.frames.held_limit (length q.frames.held) ≡ false = grind (arith, few, k.0) in
        let w : leb q.winds.held_limit (length q.winds.held) ≡ false = grind (arith, few, k.1) in
        rw (saved-is q.frames n.0 u.0 z f, saved-is q.winds n.0 u.1 z w)

    room : (zs : List HeldRow) → length zs ≡ length q.rows → ltb (length zs) most_held ≡ true
    room zs long = lt-ltb (length zs) most_held (omega (arith, few, long))

    pub holds_once : Passes (λ r. Stands p r fs ws (cs ++ (took n true fs ws ∷ []))) (holding_once n q)
    holds_once = rw (saving-is, room q.rows refl) (given_stands n true q.rows cs i.together (its-held i))

    pub holds_many : Passes (λ r. Stands p r fs ws (promoted fs cs ++ (took n false fs ws ∷ []))) (holding_many n q)
    holds_many =
        let test = marked_in (state_from q).frames in
        let zs : List HeldRow = changed_all row_name test for_many q.rows in
        let j = joined-changed pair_name pair_name row_name capture_name captured (λ x y z. refl) test for_many State.for_many (λ z. refl) (λ x y z. refl) q.frames.held q.winds.held q.rows i.together in
        rw (saving-is, room zs (length-map _ _))
        (given_stands n false zs (promoted fs cs) j.0 (j.1 ∙ ap₂ (λ gs ds. promoted gs ds) (its-frames i) (its-held i)))
