mod MoreBlocks
