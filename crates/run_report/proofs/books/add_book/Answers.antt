use Rattle.std.proofs.Common.{◌+◌, drop, get_or, map, subst, arith}
use Rattle.std.proofs.lemmas.List.{at_drop_more, at_drop_all}
use Rattle.channel_model.specs.declared.acts.Act.TheVariants.{Hand}
use Rattle.channel_model.specs.declared.acts.ChannelNote.TheVariants as note
use Rattle.note_book.specs.declared.book.Item.TheVariants as item
use Rattle.script_reader.specs.Programs.{declared_of}
use Rattle.run_report.specs.Gatherings.{GoesOn}
use Rattle.run_report.specs.Texts.{book_text}
use Rattle.run_report.proofs.Gathering.{all_added, nothing_added_yet, one_item}
use Rattle.run_report.proofs.books.add_book.Goals as goal

pub loop-item-init : goal.loop-item-init
loop-item-init c = nothing_added_yet c.args.text.now (book_text (map declared_of c.args.channels.now) c.args.tag c.args.book.now)

pub loop-item-preserved : goal.loop-item-preserved
loop-item-preserved c =
    let channels = map declared_of c.args.channels.now in
    let items = c.args.book.now in
    let k = c.loop-item.item-index in
    let first = item.Channel (note.Made (Hand 0 0 0)) in
    let all = book_text channels c.args.tag items in
    one_item channels c.args.tag c.args.text.now c.loop-item.text c.add_line.new.text (get_or items k first) (drop (k + 1) items) all
    (subst (λ l. GoesOn c.args.text.now c.loop-item.text l all) (at_drop_more (book_text channels c.args.tag) items k first (omega arith))
    c.loop-item.invariant)
    c.add_line.ensures

pub returns : goal.returns
returns c =
    let channels = map declared_of c.args.channels.now in
    let items = c.args.book.now in
    let all = book_text channels c.args.tag items in
    all_added c.args.text.now c.loop-item.text all
    (subst (λ l. GoesOn c.args.text.now c.loop-item.text l all)
    (at_drop_all (book_text channels c.args.tag) items c.loop-item.item-index (omega arith)) c.loop-item.invariant)
