-- `count_joints_in` meets its contract: the points are loaded, and the update counts them.
use Rattle.ask.proofs.LoadedPoints.{loaded, loaded_updating, joints_counted}
use Rattle.ask.proofs.counts.count_joints_in.Goals as goal

pub update-requires : goal.update-requires
update-requires c =
    let room = c.requires.3 in
    loaded_updating (loaded c.requires.0 c.load_points-m.ensures c.reference_of.ensures) c.requires.2 room.corners_long room.places_long room.line_long room.counts_long

pub returns : goal.returns
returns c =
    joints_counted (loaded c.requires.0 c.load_points-m.ensures c.reference_of.ensures) c.update.ensures.gain c.update.ensures.joints
