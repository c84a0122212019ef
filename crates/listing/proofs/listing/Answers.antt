use Rattle.std.proofs.Common.{vec_items, sym, ap, ◌∙◌}
use Rattle.std.specs.List.{flat_map}
use Rattle.board.specs.Boards.{board_of}
use Rattle.listing.specs.Listings.{clock_text, board_text}
use Rattle.listing.proofs.WholeBoards.{without_fault, front_clocks}
use Rattle.listing.proofs.listing.Goals as goal

pub returns-in_ok-clock_lines-in-Ok : goal.returns-in_ok-clock_lines-in-Ok
returns-in_ok-clock_lines-in-Ok c =
    let text = c.args.text.now in
    let b = board_of text in
    ap vec_items c.into_bytes.ensures.value ∙ (c.in_ok-clock_lines-in-Ok.ensures
    ∙ (ap (flat_map clock_text) (front_clocks b c.in-Ok.count c.read_board.new.list _ c.in-Ok.ensures.answer c.in-Ok.ensures.after)
    ∙ sym (ap (board_text text b) (without_fault b c.in-Ok.count c.in-Ok.ensures.answer))))
