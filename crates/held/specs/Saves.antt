-- A save in the frame store and then in the wind store.
use Rattle.std.specs.Prelude.{ℕ, Ok, Err, Result}
use Rattle.cell.specs.declared.frame.Frame.{Frame}
use Rattle.cell.specs.declared.name.Name.{Name}
use Rattle.cell.specs.declared.wind.Wind.{Wind}
use Rattle.store.specs.declared.refused.Refused.{Refused}
use Rattle.store.specs.Meaning.{Meaning, saved}
use Rattle.store.specs.Typed.{outcome_as, refused_of}
use Rattle.held.specs.declared.half_save.HalfSave.{HalfSave}
use Rattle.held.specs.declared.save_refusal.SaveRefusal.{SaveRefusal}
use Rattle.held.specs.declared.save_refusal.SaveRefusal.TheVariants.{Frames, Winds}
use Rattle.held.specs.declared.wind_save_refused.WindSaveRefused.{WindSaveRefused}

-- after an accepted save under a name, the half-save of that name is owed
abbrev pub owing : Name → Result Unit (Refused Frame) × Meaning Frame → Result HalfSave (Refused Frame) × Meaning Frame
owing n (Ok u, m) = (Ok (record { name = n }), m)
owing n (Err e, m) = (Err e, m)

-- after a refused save in the wind store, the half-save is still owed
abbrev pub handing_back : HalfSave → Result Unit (Refused Wind) × Meaning Wind → Result Unit WindSaveRefused × Meaning Wind
handing_back half (Ok u, m) = (Ok u, m)
handing_back half (Err e, m) = (Err (record { owed = half; refusal = e }), m)

-- what a save in both stores answers, and what the two mean after it
abbrev pub BothSaved : Type 0
BothSaved = Result Unit SaveRefusal × (Meaning Frame × Meaning Wind)

-- the frames meant f, and mean g with the save in them; a wind store that refuses makes them mean f again
abbrev pub winds_next : Meaning Frame → Meaning Frame → Result Unit (Refused Wind) × Meaning Wind → BothSaved
winds_next f g (Ok u, w) = (Ok u, (g, w))
winds_next f g (Err e, w) = (Err (Winds e), (f, w))

-- from the save in the frame store; where that is refused, the winds are not saved
abbrev pub frames_first : Meaning Frame → Meaning Wind → ℕ → Result Unit (Refused Frame) × Meaning Frame → BothSaved
frames_first f w n (Ok u, g) = winds_next f g (outcome_as refused_of (saved w n))
frames_first f w n (Err e, g) = (Err (Frames e), (g, w))

-- a save of both under a name, or of none
abbrev pub saved_both : Meaning Frame → Meaning Wind → ℕ → BothSaved
saved_both f w n = frames_first f w n (outcome_as refused_of (saved f n))
