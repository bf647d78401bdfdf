pub mod BufferLaws
