-- A world with what its logs come to in place of the logs.
use Rattle.std.specs.Prelude.{map as list_map, option_map}
use Rattle.vb_log.specs.Content.{Content}
use Rattle.vb_log.specs.Logs.{LogKind}
use Rattle.copy_model.specs.Folded.{folded_sent, folded_pair, folded}
use Rattle.world_model.specs.Worlds.{Seat, Up, Down, Nobody, Post, World}

abbrev pub folded_seat : {L Y : Type 0} → LogKind L → Seat L Y → Seat Content Y
folded_seat k (Up c) = Up (folded k c)
folded_seat k (Down disk torn) = Down (folded_pair k disk) (option_map (folded_pair k) torn)
folded_seat k Nobody = Nobody

abbrev pub folded_post : {L : Type 0} → LogKind L → Post L → Post Content
folded_post k post = record { sent = folded_sent k post.sent; incarnation = post.incarnation }

-- a world with what its logs come to
abbrev pub folded_world : {L Y : Type 0} → LogKind L → World L Y → World Content Y
folded_world k w = record {
  chain = w.chain;
  number = w.number;
  seats = list_map (folded_seat k) w.seats;
  posts = list_map (folded_post k) w.posts;
  answers = w.answers;
}
