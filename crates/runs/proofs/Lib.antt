pub mod OrderLaws
pub mod KindLaws
pub mod FrontLaws
pub mod CommonLaws
pub mod ValueLaws
pub mod MetLaws
