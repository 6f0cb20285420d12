use Rattle.std.proofs.Common.{inl, inr, refl}
use Rattle.voevent_online.proofs.top.answer.Goals as goal

pub returns-in-Ok : goal.returns-in-Ok
returns-in-Ok g c = inl (record { request = c.in-Ok.request; asked = c.in-Ok.ensures; done = c.perform.ensures })

pub returns-in-Err-Faulty : goal.returns-in-Err-Faulty
returns-in-Err-Faulty g c = inr (inl (record { nothing = rw c.in-Err-Faulty.field-0-is at c.in-Err-Faulty.ensures; told = c.refuse.ensures.told; parts = c.refuse.ensures.parts }))

pub returns-in-Err-NoMemory : goal.returns-in-Err-NoMemory
returns-in-Err-NoMemory g c = inr (inr (record { answer_is = refl; parts = refl }))
