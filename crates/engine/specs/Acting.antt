-- Acts carried out on the parts of an engine, in the order in which its code does it.
use Rattle.std.specs.Prelude.{ℕ, ◌+◌, min, Bool, true, false, cond, [], ◌∷◌, ◌++◌, reverse, length, ℤ, Some, None, Ok, Err, Option, Result, nat_le, nat_lt}
use Rattle.cell.specs.declared.address.Address.{Address}
use Rattle.cell.specs.declared.name.Name.{Name}
use Rattle.cell.specs.declared.value.Value.TheVariants.{Continuation}
use Rattle.cell.specs.declared.frame.Frame.{Frame}
use Rattle.cell.specs.declared.frame.Frame.TheVariants.{Mark}
use Rattle.cell.specs.declared.wind.Wind.{Wind}
use Rattle.store.specs.declared.refusal.Refusal.TheVariants.{Full}
use Rattle.store.specs.declared.refused.Refused.{Refused}
use Rattle.store.specs.Meaning.{Meaning, pushed, popped, restored, taken, released}
use Rattle.store.specs.Typed.{outcome_as, refused_of}
use Rattle.machine.specs.declared.act.Act.{Act}
use Rattle.machine.specs.declared.end.End.{End}
use Rattle.machine.specs.declared.end.End.TheVariants.{FrameLimit, HeldLimit}
use Rattle.machine.specs.declared.write.Write.{Write}
use Rattle.machine.specs.declared.write.Write.TheVariants.{Nothing, Register as ToRegister, Global as ToGlobal}
use Rattle.machine.specs.declared.frame_move.FrameMove.{FrameMove}
use Rattle.machine.specs.declared.frame_move.FrameMove.TheVariants.{Keep, Push, PushBoth, Pop, Replace, Restore}
use Rattle.machine.specs.declared.wind_move.WindMove.{WindMove}
use Rattle.machine.specs.declared.wind_move.WindMove.TheVariants.{Stay, Open, Reenter, Leave}
use Rattle.machine.specs.declared.name_move.NameMove.{NameMove}
use Rattle.machine.specs.declared.name_move.NameMove.TheVariants.{Keep as KeepNames, SaveMany, SaveOnce, Use, Forget}
use Rattle.machine.specs.declared.mode.Mode.TheVariants.{Going}
use Rattle.machine.specs.Acts.{Plan, moves, writing, framing, naming, does}
use Rattle.machine.specs.Admission.{growth}
use Rattle.machine.specs.Apply.{marked_in}
use Rattle.machine.specs.Going.{zeroth}
use Rattle.machine.specs.Named.{without, changed_all}
use Rattle.machine.specs.Opening.{most_held}
use Rattle.machine.specs.StoreEnds.{frame_end, wind_end}
use Rattle.held.specs.Rows.{row_name, for_many}
use Rattle.held.specs.Saves.{BothSaved, saved_both}
use Rattle.engine.specs.declared.step.Step.{Step}
use Rattle.engine.specs.declared.step.Step.TheVariants.{Made, Line, Finished}
use Rattle.engine.specs.Parts.{Parts, with_frames, with_winds, with_rows, with_register, with_global, up, turned}

-- what was answered, or the end that refused it, and the parts after it
abbrev pub Carried : Type 0 → Type 0
Carried A = Result A End × Parts

-- one thing, and after it, if it was not refused, another
infixr 10 ◌then◌
abbrev pub ◌then◌ : {A B : Type 0} → Carried A → (Parts → Carried B) → Carried B
(Ok a, p) then next = next p
(Err e, p) then next = (Err e, p)

-- a call on the frame store
abbrev pub in_frames : {A : Type 0} → Parts → Result A (Refused Frame) × Meaning Frame → Carried A
in_frames p (Ok a, m) = (Ok a, with_frames p m)
in_frames p (Err e, m) = (Err (frame_end e), with_frames p m)

-- a call on the wind store
abbrev pub in_winds : {A : Type 0} → Parts → Result A (Refused Wind) × Meaning Wind → Carried A
in_winds p (Ok a, m) = (Ok a, with_winds p m)
in_winds p (Err e, m) = (Err (wind_end e), with_winds p m)

-- a frame is pushed
abbrev pub pushing : Frame → Parts → Carried Unit
pushing f p = in_frames p (outcome_as refused_of (pushed p.frames f))

-- the top frame is popped
abbrev pub popping : Parts → Carried Frame
popping p = in_frames p (outcome_as refused_of (popped p.frames))

-- another frame takes the place of the top frame
abbrev pub replacing : Frame → Parts → Carried Unit
replacing f p = popping p then pushing f

-- a wind is put in force
abbrev pub entering : Wind → Parts → Carried Unit
entering w p = in_winds p (outcome_as refused_of (pushed p.winds w))

-- the top wind is removed
abbrev pub leaving : Parts → Carried Wind
leaving p = in_winds p (outcome_as refused_of (popped p.winds))

-- the frames saved under a name are current, and go on being held
abbrev pub restoring : Name → Parts → Carried Unit
restoring n p = in_frames p (outcome_as refused_of (restored p.frames n.0))

-- the frames saved under a name are current, and held no more
abbrev pub taking : Name → Parts → Carried Unit
taking n p = in_frames p (outcome_as refused_of (taken p.frames n.0))

-- the frame store holds a name no more
abbrev pub releasing_frames : Name → Parts → Carried Unit
releasing_frames n p = in_frames p (outcome_as refused_of (released p.frames n.0))

-- the wind store holds a name no more
abbrev pub releasing_winds : Name → Parts → Carried Unit
releasing_winds n p = in_winds p (outcome_as refused_of (released p.winds n.0))

-- the rows have a name no more
abbrev pub dropping : Name → Parts → Carried Unit
dropping n p = (Ok tt, with_rows p (without row_name p.rows n.0))

-- a save in both stores, or the end for want of room
abbrev pub in_both : Parts → BothSaved → Carried Unit
in_both p (Ok u, ms) = (Ok u, with_winds (with_frames p ms.0) ms.1)
in_both p (Err e, ms) = (Err HeldLimit, with_winds (with_frames p ms.0) ms.1)

-- both stores save under a name
abbrev pub saving : Name → Parts → Carried Unit
saving n p = in_both p (saved_both p.frames p.winds n.0)

-- a row behind the others, if the table has room
abbrev pub adding : Name → Bool → Parts → Carried Unit
adding n once p =
    cond (nat_lt (length p.rows) most_held) (Ok tt, with_rows p (p.rows ++ (record { name = n; once = once } ∷ []))) (Err HeldLimit, p)

-- the rows whose name has a Mark in the frames serve for many throws
abbrev pub promoting : Parts → Parts
promoting p = with_rows p (changed_all row_name (marked_in (reverse p.frames.current)) for_many p.rows)

-- a name is held, for many throws
abbrev pub holding_many : Name → Parts → Carried Unit
holding_many n p = saving n p then λ q. adding n false (promoting q)

-- a name is held, for one throw
abbrev pub holding_once : Name → Parts → Carried Unit
holding_once n p = saving n p then adding n true

-- room in a list for so many elements more, or its refusal for want of it
abbrev pub room_in : {A : Type 0} → Meaning A → ℕ → Result Unit (Refused A)
room_in m k = cond (nat_le (length m.current + k) m.depth_limit) (Ok tt) (Err (refused_of (Full m.limit_level)))

-- room for so many frames more: what the list's refusal comes to is the end
abbrev pub frame_room : ℕ → Parts → Carried Unit
frame_room k p = cond (nat_le (length p.frames.current + k) p.frames.depth_limit) (Ok tt, p) (Err (FrameLimit p.frames.limit_level), p)

-- room for a name more
abbrev pub name_room : Parts → Carried Unit
name_room p = cond (nat_lt (length p.rows) (min most_held (min p.frames.held_limit p.winds.held_limit))) (Ok tt, p) (Err HeldLimit, p)

-- room for a capture that pushes so many frames: that of frames comes before that of names
abbrev pub capture_room : ℕ → Parts → Carried Unit
capture_room k p = frame_room k p then name_room

-- the name that is made next
abbrev pub fresh : Parts → Name
fresh p = record { 0 = up p.counts.made }

-- `cc` and `cc1` of a procedure
abbrev pub capturing : NameMove → FrameMove → Parts → Address → Plan
capturing save push p q = does (naming save (writing (ToRegister zeroth (Continuation (fresh p))) (framing push (moves (Going q)))))

-- the Mark of the name that is made next
abbrev pub fresh_mark : Parts → Frame
fresh_mark p = Mark (fresh p)

-- the wind that is entered next as a new one
abbrev pub new_wind : Parts → Address → Address → Wind
new_wind p before after = record { number = record { 0 = up p.counts.numbered }; before = before; after = after }

-- a register or a global is written
abbrev pub written : Write → Parts → Parts
written Nothing p = p
written (ToRegister r v) p = with_register p r v
written (ToGlobal g v) p = with_global p g v

-- the step is made
abbrev pub made : Act → Parts → Carried Step
made a p = (Ok Made, turned (written a.write p) a.mode a.winds a.names)

-- nothing
abbrev pub idle : Parts → Carried Unit
idle p = (Ok tt, p)

-- room for two frames, if a move pushes two; one frame is refused by the store itself
abbrev pub both_room : FrameMove → Parts → Carried Unit
both_room Keep p = idle p
both_room (Push f) p = idle p
both_room (PushBoth f g) p = frame_room 2 p
both_room Pop p = idle p
both_room (Replace f) p = idle p
both_room (Restore n) p = idle p

-- the room that has to be there before anything is done
abbrev pub rooms : FrameMove → NameMove → Parts → Carried Unit
rooms f KeepNames p = both_room f p
rooms f SaveMany p = capture_room (growth f) p
rooms f SaveOnce p = capture_room (growth f) p
rooms f (Use n) p = both_room f p
rooms f (Forget n) p = both_room f p

-- a wind that is entered comes first: its place has to be there
abbrev pub enter_first : WindMove → Parts → Carried Unit
enter_first Stay p = idle p
enter_first (Open before after) p = entering (new_wind p before after) p
enter_first (Reenter w) p = entering w p
enter_first Leave p = idle p

-- the frames saved under a name, which is used up or not
abbrev pub landing : Name → NameMove → Parts → Carried Unit
landing n KeepNames p = restoring n p
landing n SaveMany p = restoring n p
landing n SaveOnce p = restoring n p
landing n (Use m) p = taking n p
landing n (Forget m) p = restoring n p

-- the frames, but for the second of two that are pushed
abbrev pub move_frames : FrameMove → NameMove → Parts → Carried Unit
move_frames Keep names p = idle p
move_frames (Push f) names p = pushing f p
move_frames (PushBoth f g) names p = pushing f p
move_frames Pop names p = popping p then idle
move_frames (Replace f) names p = replacing f p
move_frames (Restore n) names p = landing n names p

-- a wind that is left
abbrev pub leave_after : WindMove → Parts → Carried Unit
leave_after Stay p = idle p
leave_after (Open before after) p = idle p
leave_after (Reenter w) p = idle p
leave_after Leave p = leaving p then idle

-- the frames' part of a release, which a take has done already
abbrev pub release_frames : FrameMove → Name → Parts → Carried Unit
release_frames Keep n p = releasing_frames n p
release_frames (Push f) n p = releasing_frames n p
release_frames (PushBoth f g) n p = releasing_frames n p
release_frames Pop n p = releasing_frames n p
release_frames (Replace f) n p = releasing_frames n p
release_frames (Restore m) n p = idle p

-- a name is held no more
abbrev pub release : FrameMove → Name → Parts → Carried Unit
release f n p = release_frames f n p then λ q. releasing_winds n q then dropping n

-- the names, given the next one
abbrev pub move_names : FrameMove → NameMove → Name → Parts → Carried Unit
move_names f KeepNames next p = idle p
move_names f SaveMany next p = holding_many next p
move_names f SaveOnce next p = holding_once next p
move_names f (Use n) next p = release f n p
move_names f (Forget n) next p = release f n p

-- the second of two frames that are pushed
abbrev pub push_second : FrameMove → Parts → Carried Unit
push_second Keep p = idle p
push_second (Push f) p = idle p
push_second (PushBoth f g) p = pushing g p
push_second Pop p = idle p
push_second (Replace f) p = idle p
push_second (Restore n) p = idle p

-- an act, given the name that is made next: what can be refused comes first
abbrev pub carry_as : Name → Act → Parts → Carried Step
carry_as next a p =
    rooms a.frames a.names p then λ q. enter_first a.winds q then λ q. move_frames a.frames a.names q
    then λ q. leave_after a.winds q then λ q. move_names a.frames a.names next q then λ q. push_second a.frames q then made a

-- an act
abbrev pub carry : Act → Parts → Carried Step
carry a p = carry_as (fresh p) a p

-- an act; where a line has to be printed, nothing is done yet
abbrev pub acting : Option ℤ → Act → Parts → Carried Step
acting None a p = carry a p
acting (Some z) a p = (Ok (Line z a.mode), p)

-- a plan
abbrev pub carried : Plan → Parts → Carried Step
carried (Err e) p = (Err e, p)
carried (Ok None) p = (Ok Finished, turned p p.mode Stay KeepNames)
carried (Ok (Some a)) p = acting a.line a p
