use Rattle.std.proofs.Common.{◌≡◌}
use Rattle.busdma_machine.specs.declared.bounce.hold.HubCall.TheVariants as hub
use Rattle.busdma_machine.specs.declared.bounce.hold.HubReply.TheVariants as said
use Rattle.busdma_machine.specs.Bounce.Door.{grab_reply, memory_reply}
use Rattle.busdma_machine.specs.Machine.PageList.{page_address}
use Rattle.lane_threads.specs.declared.call.DoorReply.TheVariants as reply
use Rattle.lane_threads.specs.Object.{IsEntered}
use Rattle.lane_threads.proofs.Acting.{made, made_or_failed, made_or_missed, with_row, grows_answered, answers_here}
use Rattle.lane_threads.proofs.object.HubObjectTurnObject.act.Goals as goal

pub returns-in-AttachTag-clause-answers : goal.returns-in-AttachTag-clause-answers
returns-in-AttachTag-clause-answers c =
    let a = c.in-AttachTag in let h = c.self.inside.hub in let g = c.attach_tag.new.self in
    answers_here h c.args.self.now g.history c.args._name _ c.args.call
    (reply.AttachTag c.attach_tag.result) c.self.view_is a.is
    (made_or_failed h g a.lane.0 (hub.AttachTag a.tag) said.Grown c.attach_tag.result
    c.attach_tag.ensures.held c.attach_tag.ensures.no_memory)

pub returns-in-AttachTag-clause-grows : goal.returns-in-AttachTag-clause-grows
returns-in-AttachTag-clause-grows c =
    grows_answered c.args.self.now.opening _ _ _ c.args.call (reply.AttachTag c.attach_tag.result) c.requires.may.lane
    (returns-in-AttachTag-clause-answers c)

pub returns-in-CreateMap-clause-answers : goal.returns-in-CreateMap-clause-answers
returns-in-CreateMap-clause-answers c =
    let a = c.in-CreateMap in let h = c.self.inside.hub in let g = c.create_map.new.self in
    answers_here h c.args.self.now g.history c.args._name _ c.args.call
    (reply.CreateMap c.create_map.result) c.self.view_is a.is
    (made_or_failed h g a.map.lane.0 (hub.CreateMap a.map a.tag a.first_done) said.Grown c.create_map.result
    c.create_map.ensures.held c.create_map.ensures.no_memory)

pub returns-in-CreateMap-clause-grows : goal.returns-in-CreateMap-clause-grows
returns-in-CreateMap-clause-grows c =
    grows_answered c.args.self.now.opening _ _ _ c.args.call (reply.CreateMap c.create_map.result) c.requires.may.lane
    (returns-in-CreateMap-clause-answers c)

pub returns-in-DestroyMap-clause-answers : goal.returns-in-DestroyMap-clause-answers
returns-in-DestroyMap-clause-answers c =
    let a = c.in-DestroyMap in let h = c.self.inside.hub in let g = c.destroy_map.new.self in
    answers_here h c.args.self.now g.history c.args._name _ c.args.call reply.DestroyMap c.self.view_is a.is
    (made h g a.map.lane.0 (hub.DestroyMap a.map a.zone) said.Nothing c.destroy_map.ensures.held)

pub returns-in-DestroyMap-clause-grows : goal.returns-in-DestroyMap-clause-grows
returns-in-DestroyMap-clause-grows c =
    grows_answered c.args.self.now.opening _ _ _ c.args.call reply.DestroyMap c.requires.may.lane
    (returns-in-DestroyMap-clause-answers c)

pub returns-in-Grab-clause-answers : goal.returns-in-Grab-clause-answers
returns-in-Grab-clause-answers c =
    let a = c.in-Grab in let h = c.self.inside.hub in let g = c.grab.new.self in
    answers_here h c.args.self.now g.history c.args._name _ c.args.call (reply.Grab c.grab.result) c.self.view_is a.is
    (made_or_failed h g a.map.lane.0 (hub.Grab a.map a.zone a.need a.nowait) grab_reply c.grab.result
    c.grab.ensures.held c.grab.ensures.no_memory)

pub returns-in-Grab-clause-grows : goal.returns-in-Grab-clause-grows
returns-in-Grab-clause-grows c =
    grows_answered c.args.self.now.opening _ _ _ c.args.call (reply.Grab c.grab.result)
    c.requires.may.lane (returns-in-Grab-clause-answers c)

pub returns-in-Release-clause-answers : goal.returns-in-Release-clause-answers
returns-in-Release-clause-answers c =
    let a = c.in-Release in let h = c.self.inside.hub in let g = c.release.new.self in
    answers_here h c.args.self.now g.history c.args._name _ c.args.call
    (reply.Release c.release.result) c.self.view_is a.is
    (made h g a.map.lane.0 (hub.Release a.map a.zone (record { 0 = page_address a.page }))
    (said.Served c.release.result) c.release.ensures.held)

pub returns-in-Release-clause-grows : goal.returns-in-Release-clause-grows
returns-in-Release-clause-grows c =
    grows_answered c.args.self.now.opening _ _ _ c.args.call (reply.Release c.release.result) c.requires.may.lane
    (returns-in-Release-clause-answers c)

pub returns-in-TakeCallback-clause-answers : goal.returns-in-TakeCallback-clause-answers
returns-in-TakeCallback-clause-answers c =
    let a = c.in-TakeCallback in let h = c.self.inside.hub in let g = c.take_callback.new.self in
    answers_here h c.args.self.now g.history c.args._name _ c.args.call
    (reply.TakeCallback c.take_callback.result) c.self.view_is a.is
    (made_or_missed h g a.lane.0 c.take_callback.result c.take_callback.ensures.held)

pub returns-in-TakeCallback-clause-grows : goal.returns-in-TakeCallback-clause-grows
returns-in-TakeCallback-clause-grows c =
    grows_answered c.args.self.now.opening _ _ _ c.args.call (reply.TakeCallback c.take_callback.result)
    c.requires.may.lane (returns-in-TakeCallback-clause-answers c)

pub returns-in-MemAlloc-clause-answers : goal.returns-in-MemAlloc-clause-answers
returns-in-MemAlloc-clause-answers c =
    let a = c.in-MemAlloc in let h = c.self.inside.hub in let g =
    c.mem_alloc.new.self in let e = c.mem_alloc.ensures in
    answers_here h c.args.self.now g.history c.args._name _ c.args.call
    (reply.MemAlloc c.mem_alloc.result) c.self.view_is a.is
    (with_row (λ x. IsEntered h.opening h.history a.mem.lane.0 (hub.MemAlloc a.mem a.tag) (memory_reply x) g.history)
    (g.history ≡ h.history)
    c.mem_alloc.result (made_or_failed h g a.mem.lane.0 (hub.MemAlloc a.mem a.tag) memory_reply
    c.mem_alloc.result e.held e.no_memory)
    e.row e.few)

pub returns-in-MemAlloc-clause-grows : goal.returns-in-MemAlloc-clause-grows
returns-in-MemAlloc-clause-grows c =
    grows_answered c.args.self.now.opening _ _ _ c.args.call (reply.MemAlloc c.mem_alloc.result) c.requires.may.lane
    (returns-in-MemAlloc-clause-answers c)

pub returns-in-MemFree-clause-answers : goal.returns-in-MemFree-clause-answers
returns-in-MemFree-clause-answers c =
    let a = c.in-MemFree in let h = c.self.inside.hub in let g = c.mem_free.new.self in
    answers_here h c.args.self.now g.history c.args._name _ c.args.call reply.MemFree c.self.view_is a.is
    (made h g a.mem.lane.0 (hub.MemFree a.mem) said.Nothing c.mem_free.ensures.held)

pub returns-in-MemFree-clause-grows : goal.returns-in-MemFree-clause-grows
returns-in-MemFree-clause-grows c =
    grows_answered c.args.self.now.opening _ _ _ c.args.call reply.MemFree c.requires.may.lane
    (returns-in-MemFree-clause-answers c)
